-- The lines of interval logs.
use Rattle.std.specs.Prelude.{◌≡◌, ℕ, Bool, true, false, List, [], ◌∷◌, Option, IfSome}
use Rattle.std.specs.Io.KnownBytes.{IsAtEnd}
use Rattle.std.specs.Io.BufRead.{take_through, drop_through, DropsThrough}

-- the next line is read, through its LF, or what is left; there is none at the end
abbrev pub ReadsLine : Option (List ℕ) → Option (List ℕ) → Bool → List ℕ → Type 0
ReadsLine old new false line = IsAtEnd old × DropsThrough old new 10
ReadsLine old new true line = IfSome old (λ text. line ≡ take_through 10 text) × DropsThrough old new 10

-- the lines of a text, each with its LF, which only the last may lack
abbrev pub AreLines : List (List ℕ) → List ℕ → Type 0
AreLines [] text = text ≡ []
AreLines (line ∷ lines) text = (line ≡ take_through 10 text) × AreLines lines (drop_through 10 text)
