-- Histograms of logs in Base64, and as plain V2 bytes.
use Rattle.std.specs.Prelude.{◌≡◌, ℕ, Bool, List, ◌&&◌, ◌||◌, not, nat_le, nat_eq, true, false, length, codes}
use Rattle.std.specs.List.{starts_with}
use Rattle.hdr_convert.specs.Lines.{IsFieldIn}
use Rattle.hdr_convert.specs.declared.bytes.Form.TheVariants.{Plain}

-- a field of eight bytes or more starts as a histogram of another form than plain V2
unfoldable pub is_other_form : List ℕ → Bool
is_other_form field =
    nat_le 8 (length field)
    && (starts_with nat_eq field (codes "HIST") && not (starts_with nat_eq field (codes "HISTEw")) || starts_with nat_eq field (codes "DHIST"))

-- a field with a plain histogram: the same, or the V2 bytes of one of another form
abbrev pub IsPlainField : List ℕ → List ℕ → Type 0
IsPlainField field plain =
    (is_other_form field ≡ false → plain ≡ field)
    × (is_other_form field ≡ true → IsFieldIn Plain field plain)
