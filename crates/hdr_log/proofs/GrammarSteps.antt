-- Reading line by line.
use Rattle.std.proofs.Common.{◌≡◌, ℕ, ◌+◌, ◌<◌, ◌≤◌, Bool, true, false, cond, ◌==◌, nat_lt, List, [], ◌∷◌, length, Some, None, Result, Ok, Err, refl, sym, ap, ◌∙◌, arith, inl, inr}
use Rattle.std.specs.List.{position_or_len, before_first, after_first}
use Rattle.std.proofs.lemmas.List.Splits.{slice_split_first}
use Rattle.std.proofs.lemmas.Bool.{cases_lt}
use Rattle.std.proofs.lemmas.Option.{same_Some, none-some}
use Rattle.hdr_log.specs.Parts.{parts, split_at_byte}
use Rattle.hdr_log.specs.Grammar.{Entry, entry_of, is_skipped, and_then, readings}
use Rattle.hdr_log.proofs.PartsFronts.{lt_test, not_lt_test}

-- the lines after a line
pub split_parted : (text line rest : List ℕ) → split_at_byte 10 text ≡ Some (line, rest) → parts 10 text ≡ line ∷ parts 10 rest
unfolding split_at_byte
split_parted text line rest h = elim (cases_lt (position_or_len (λ x. x == 10) text) (length text)) [
  | inl l ↦ (let t : nat_lt (position_or_len (λ x. x == 10) text) (length text) ≡ true = lt_test _ _ l in
      let q : Some (before_first (λ x. x == 10) text, after_first (λ x. x == 10) text) ≡ Some (line, rest) = rw t at h in
      let e : (before_first (λ x. x == 10) text, after_first (λ x. x == 10) text) ≡ (line, rest) = same_Some _ _ q in
      slice_split_first (λ x. x == 10) text 0 l ∙ ap (λ (r : List ℕ × List ℕ). r.0 ∷ parts 10 r.1) e)
  | inr g ↦ (let t : nat_lt (position_or_len (λ x. x == 10) text) (length text) ≡ false = not_lt_test _ _ g in
      absurd (none-some (line, rest) (rw t at h)))
]

-- a text with no LF is one part
no_first : (text : List ℕ) → length text ≤ position_or_len (λ x. x == 10) text → parts 10 text ≡ text ∷ []
no_first [] h = refl
no_first (x ∷ text) h = grind (arith, no_first text)

pub split_none : (text : List ℕ) → split_at_byte 10 text ≡ None → parts 10 text ≡ text ∷ []
unfolding split_at_byte
split_none text h = elim (cases_lt (position_or_len (λ x. x == 10) text) (length text)) [
  | inl l ↦ (let t : nat_lt (position_or_len (λ x. x == 10) text) (length text) ≡ true = lt_test _ _ l in
      absurd (none-some _ (sym (rw t at h))))
  | inr g ↦ no_first text g
]

either : (b : Bool) (x : ℕ) (part : List ℕ) (parts : List (List ℕ)) → (first : List ℕ) × (more : List (List ℕ)) × (cond b ([] ∷ part ∷ parts) ((x ∷ part) ∷ parts) ≡ first ∷ more)
either true x part parts = ([], part ∷ parts, refl)
either false x part parts = (x ∷ part, parts, refl)

pub some_part : (text : List ℕ) → (first : List ℕ) × (more : List (List ℕ)) × (parts 10 text ≡ first ∷ more)
some_part [] = ([], [], refl)
some_part (x ∷ text) = let p : (first : List ℕ) × (more : List (List ℕ)) × (parts 10 text ≡ first ∷ more) = some_part text in rw p.2 (either (x == 10) x p.0 p.1)

pub lines_step : (at : ℕ) (line next : List ℕ) (lines : List (List ℕ)) → readings at (line ∷ next ∷ lines) ≡ and_then (entry_of line) (is_skipped line) at (readings (at + length line + 1) (next ∷ lines))
unfolding readings
lines_step at [] next lines = refl
lines_step at (x ∷ line) next lines = refl

-- one line is read
pub readings_step : (at : ℕ) (text line rest : List ℕ) → split_at_byte 10 text ≡ Some (line, rest) → readings at (parts 10 text) ≡ and_then (entry_of line) (is_skipped line) at (readings (at + length line + 1) (parts 10 rest))
unfolding readings
readings_step at text line rest h = let p : (first : List ℕ) × (more : List (List ℕ)) × (parts 10 rest ≡ first ∷ more) = some_part rest in
    let e : parts 10 text ≡ line ∷ parts 10 rest = split_parted text line rest h in
    rw (e, p.2) (lines_step at line p.0 p.1)

-- what is left without an LF
pub readings_end : (at : ℕ) (text : List ℕ) → split_at_byte 10 text ≡ None → 0 < length text → readings at (parts 10 text) ≡ Err at ∷ []
unfolding readings
readings_end at [] h n = absurd (omega arith)
readings_end at (x ∷ text) h n = rw (split_none (x ∷ text) h) refl

pub readings_nothing : (at : ℕ) (text : List ℕ) → length text ≡ 0 → readings at (parts 10 text) ≡ []
unfolding readings
readings_nothing at [] h = refl
readings_nothing at (x ∷ text) h = absurd (omega arith)

-- the three ways to go on
pub gives_entry : (at : ℕ) (text line rest : List ℕ) (e : Entry) (all : List (Result Entry ℕ)) → readings at (parts 10 text) ≡ all → Some (line, rest) ≡ split_at_byte 10 text → Some e ≡ entry_of line → all ≡ Ok e ∷ readings (at + length line + 1) (parts 10 rest)
gives_entry at text line rest e all same h says = sym same ∙ readings_step at text line rest (sym h) ∙ ap (λ o. and_then o (is_skipped line) at (readings (at + length line + 1) (parts 10 rest))) (sym says)

pub gives_next : (at : ℕ) (text line rest : List ℕ) (all : List (Result Entry ℕ)) → readings at (parts 10 text) ≡ all → Some (line, rest) ≡ split_at_byte 10 text → None ≡ entry_of line → true ≡ is_skipped line → readings (at + length line + 1) (parts 10 rest) ≡ all
gives_next at text line rest all same h says skip = sym (sym same ∙ readings_step at text line rest (sym h) ∙ (let o : entry_of line ≡ None = sym says in let k : is_skipped line ≡ true = sym skip in rw (o, k) refl))

pub gives_error : (at later : ℕ) (text line rest : List ℕ) (all : List (Result Entry ℕ)) → readings at (parts 10 text) ≡ all → Some (line, rest) ≡ split_at_byte 10 text → None ≡ entry_of line → false ≡ is_skipped line → all ≡ Err at ∷ readings later (parts 10 [])
gives_error at later text line rest all same h says skip = sym same ∙ readings_step at text line rest (sym h) ∙ (let o : entry_of line ≡ None = sym says in let k : is_skipped line ≡ false = sym skip in rw (o, k) (ap (λ t. Err at ∷ t) (sym (readings_nothing later [] refl))))

pub gives_end : (at : ℕ) (text : List ℕ) (all : List (Result Entry ℕ)) → readings at (parts 10 text) ≡ all → length text ≡ 0 → (all ≡ []) × (readings at (parts 10 text) ≡ [])
gives_end at text all same h = (sym same ∙ readings_nothing at text h, readings_nothing at text h)

pub gives_last_error : (at : ℕ) (text : List ℕ) (all : List (Result Entry ℕ)) → readings at (parts 10 text) ≡ all → None ≡ split_at_byte 10 text → 0 < length text → all ≡ Err at ∷ readings at (parts 10 [])
gives_last_error at text all same h n = sym same ∙ readings_end at text (sym h) n ∙ ap (λ t. Err at ∷ t) (sym (readings_nothing at [] refl))
