-- Looking for headers line by line.
use Rattle.std.proofs.Common.{◌≡◌, ◌∙◌, ℕ, List, ◌∷◌, Option, Some, None, refl, sym, ap}
use Rattle.std.specs.Option.{option_or}
use Rattle.hdr_log.specs.Parts.{parts, split_at_byte}
use Rattle.hdr_log.proofs.GrammarSteps.{split_parted, split_none, some_part}
use Rattle.hdr_c.specs.Headers.{first_in}

line_step : (find : List ℕ → Option ℕ) (line part : List ℕ) (rest : List (List ℕ)) → first_in find (line ∷ part ∷ rest) ≡ option_or (find line) (first_in find (part ∷ rest))
unfolding first_in
line_step find line part rest = refl

-- a line, and what follows it
pub first_step : (find : List ℕ → Option ℕ) (text line rest : List ℕ) → split_at_byte 10 text ≡ Some (line, rest) → first_in find (parts 10 text) ≡ option_or (find line) (first_in find (parts 10 rest))
first_step find text line rest h =
    let p : (first : List ℕ) × (more : List (List ℕ)) × (parts 10 rest ≡ first ∷ more) = some_part rest in
    let e : parts 10 text ≡ line ∷ parts 10 rest = split_parted text line rest h in
    rw (e, p.2) (line_step find line p.0 p.1)

or_assoc : (a b d : Option ℕ) → option_or (option_or a b) d ≡ option_or a (option_or b d)
or_assoc None b d = refl
or_assoc (Some x) b d = refl

or_none : (a : Option ℕ) → option_or a None ≡ a
or_none None = refl
or_none (Some x) = refl

-- what was found before a line or in it, or else is in the rest
pub found_so_far : (find : List ℕ → Option ℕ) (text line rest : List ℕ) (before now all : Option ℕ) → option_or before (first_in find (parts 10 text)) ≡ all → Some (line, rest) ≡ split_at_byte 10 text → now ≡ option_or before (find line) → option_or now (first_in find (parts 10 rest)) ≡ all
found_so_far find text line rest before now all same h is =
    let step : first_in find (parts 10 text) ≡ option_or (find line) (first_in find (parts 10 rest)) = first_step find text line rest (sym h) in
    ap (λ o. option_or o (first_in find (parts 10 rest))) is ∙ or_assoc before (find line) (first_in find (parts 10 rest)) ∙ ap (λ o. option_or before o) (sym step) ∙ same

-- no line is left
pub found_in_all : (find : List ℕ → Option ℕ) (text : List ℕ) (found all : Option ℕ) → option_or found (first_in find (parts 10 text)) ≡ all → None ≡ split_at_byte 10 text → found ≡ all
unfolding first_in
found_in_all find text found all same h =
    let e : option_or found None ≡ all = rw (split_none text (sym h)) at same in
    sym (or_none found) ∙ e
