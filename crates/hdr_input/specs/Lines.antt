-- The lines of inputs.
use Rattle.std.specs.Prelude.{◌≡◌, ⊤, ℕ, Bool, if◌then◌else◌, List, [], ◌∷◌, unwrap_or}
use Rattle.hdr_log.specs.Grammar.{after_front}

-- a line without a byte order mark, which only the first line may have
abbrev pub without_mark : Bool → List ℕ → List ℕ
without_mark is_first line = if is_first then unwrap_or (after_front (239 ∷ 187 ∷ 191 ∷ []) line) line else line

-- a text ends with LF, or is empty
abbrev pub IsComplete : List ℕ → Type 0
IsComplete [] = ⊤
IsComplete (x ∷ []) = x ≡ 10
IsComplete (x ∷ y ∷ rest) = IsComplete (y ∷ rest)
