-- Lines of interval logs that are converted.
use Rattle.std.specs.Prelude.{ℕ, List, [], ◌∷◌, ◌++◌, ◌≡◌, Some, Contains}
use Rattle.hdr_log.specs.Texts.{base64_of, base64_bytes}
use Rattle.hdr_convert.specs.Converted.{IsInForm}
use Rattle.hdr_convert.specs.declared.bytes.Form.{Form}

-- The Base64 of a histogram in this form, from that of the same in any form.
pub record IsFieldIn (form : Form) (field text : List ℕ) : Type 0 where
  pub bytes : List ℕ
  pub made : List ℕ
  pub decoded : base64_bytes field ≡ Some bytes
  pub converted : IsInForm form bytes made
  pub encoded : text ≡ base64_of made

-- The text after the last comma of a line is the last field.
abbrev pub IsLastField : List ℕ → List ℕ → List ℕ → Type 0
IsLastField line front field = (line ≡ front ++ 44 ∷ field) × (Contains field 44 → ⊥)

-- A line has the histogram `field` in this form in place of the text after its last comma, and ends in a line feed.
pub record IsConverted (form : Form) (field line text : List ℕ) : Type 0 where
  pub front : List ℕ
  pub rest : List ℕ
  pub last : IsLastField line front rest
  pub made : List ℕ
  pub field_is : IsFieldIn form field made
  pub text_is : text ≡ front ++ 44 ∷ (made ++ 10 ∷ [])
