-- How many items a log has, and that the offset of an error lies within it.
use Rattle.std.proofs.Common.{◌≡◌, ℕ, ◌+◌, ◌==◌, ◌<◌, ◌≤◌, Bool, true, false, cond, List, [], ◌∷◌, length, Option, Some, None, Result, sym, ap, ◌∙◌, arith, lit≤}
use Rattle.std.specs.Prelude.{All}
use Rattle.std.specs.List.{AllByRecursion}
use Rattle.std.proofs.lemmas.List.Elements.{All-from_recursion}
use Rattle.std.proofs.lemmas.List.Sums.{count_by-le-length}
use Rattle.std.proofs.lemmas.List.Splits.{length-slice_split}
use Rattle.hdr_log.specs.Parts.{parts}
use Rattle.hdr_log.specs.Grammar.{Entry, entry_of, is_skipped, and_then, readings, reading, LiesIn}
use Rattle.hdr_log.proofs.GrammarSteps.{lines_step, some_part}

then_few : (o : Option Entry) (skip : Bool) (at n : ℕ) (rest : List (Result Entry ℕ)) → length rest ≤ n → length (and_then o skip at rest) ≤ n + 1
then_few (Some e) skip at n rest h = omega (arith, h)
then_few None true at n rest h = omega (arith, h)
then_few None false at n rest h = omega arith

readings_few : (lines : List (List ℕ)) (at : ℕ) → length (readings at lines) ≤ length lines
unfolding readings
readings_few [] at = lit≤ tt
readings_few ([] ∷ []) at = lit≤ tt
readings_few ((x ∷ line) ∷ []) at = lit≤ tt
readings_few (line ∷ next ∷ lines) at =
    let more : length (readings (at + length line + 1) (next ∷ lines)) ≤ length (next ∷ lines) = readings_few (next ∷ lines) (at + length line + 1) in
    rw (lines_step at line next lines) (let few = then_few (entry_of line) (is_skipped line) at (length (next ∷ lines)) (readings (at + length line + 1) (next ∷ lines)) more in omega (arith, few))

pub reading_few : (text : List ℕ) → length (reading text) ≤ length text + 1
reading_few text =
    let a : length (reading text) ≤ length (parts 10 text) = readings_few (parts 10 text) 0 in
    omega (arith, a, length-slice_split (λ x. x == 10) text, count_by-le-length (λ x. x == 10) text)

-- the bytes of lines, with one more behind each
total : List (List ℕ) → ℕ
total [] = 0
total (line ∷ lines) = length line + 1 + total lines

total_either : (b : Bool) (x : ℕ) (part : List ℕ) (more : List (List ℕ)) → total (cond b ([] ∷ part ∷ more) ((x ∷ part) ∷ more)) ≡ total (part ∷ more) + 1
unfolding total
total_either true x part more = omega arith
total_either false x part more = omega arith

parts_total : (text : List ℕ) → total (parts 10 text) ≡ length text + 1
unfolding total
parts_total [] = omega arith
parts_total (x ∷ text) =
    let p : (first : List ℕ) × (more : List (List ℕ)) × (parts 10 text ≡ first ∷ more) = some_part text in
    let e : total (p.0 ∷ p.1) ≡ length text + 1 = ap total (sym p.2) ∙ parts_total text in
    rw p.2 (total_either (x == 10) x p.0 p.1 ∙ omega (arith, e))

then_places : (o : Option Entry) (skip : Bool) (at n : ℕ) (rest : List (Result Entry ℕ)) → at < n → AllByRecursion (LiesIn n) rest → AllByRecursion (LiesIn n) (and_then o skip at rest)
then_places (Some e) skip at n rest h all = (tt, all)
then_places None true at n rest h all = all
then_places None false at n rest h all = (h, tt)

readings_places : (lines : List (List ℕ)) (at n : ℕ) → at + total lines ≤ n + 1 → AllByRecursion (LiesIn n) (readings at lines)
unfolding readings total
readings_places [] at n h = tt
readings_places ([] ∷ []) at n h = tt
readings_places ((x ∷ line) ∷ []) at n h = (omega (arith, h), tt)
readings_places (line ∷ next ∷ lines) at n h =
    rw (lines_step at line next lines) (then_places (entry_of line) (is_skipped line) at n (readings (at + length line + 1) (next ∷ lines)) (omega (arith, h))
    (readings_places (next ∷ lines) (at + length line + 1) n (omega (arith, h))))

pub reading_places : (text : List ℕ) → All (LiesIn (length text)) (reading text)
reading_places text = All-from_recursion (LiesIn (length text)) (reading text) (readings_places (parts 10 text) 0 (length text) (omega (arith, parts_total text)))
