-- Tags with too few samples for blocks.
use Rattle.std.proofs.Common.{◌≡◌, ℕ, ◌+◌, ◌*◌, ◌<◌, ◌≤◌, ◌==◌, Bool, true, false, if◌then◌else◌, ltb, List, [], ◌∷◌, ◌++◌, length, map, Option, None, Some, refl, ap, ◌∙◌, arith, inl, inr, length-append}
use Rattle.std.specs.List.{All, sum_by}
use Rattle.std.proofs.lemmas.Bool.{cases_lt}
use Rattle.std.proofs.lemmas.Bool.Decides.{nat_tests}
use Rattle.std.proofs.lemmas.List.Sums.{sum_by-cons}
use Rattle.std.proofs.lemmas.List.Elements.{All-head, All-tail}
use Rattle.std.proofs.Math.Nat.{mul-le-mul_right}
use Rattle.hdr_verdict.specs.declared.tail.Tail.{Tail}
use Rattle.hdr_verdict.specs.declared.usual.Usual.{Usual}
use Rattle.hdr_verdict.specs.Tails.{tail_value}
use Rattle.hdr_verdict.specs.Usual.{blocks_from, least_block, lower_quartile, usual_of, usual_of_blocks}
use Rattle.hdr_verdict.proofs.BlockFacts.{blocks-full, blocks-short}

-- each block has the least number of samples or more
blocks-long : (least : ℕ) (since : List ℕ) (cells : List (List ℕ)) → length (blocks_from least since cells) * least ≤ length since + sum_by length cells
blocks-long least since [] = omega arith
blocks-long least since (cell ∷ cells) =
    let both = length-append since cell in
    let sum = sum_by-cons {X = List ℕ} length cell cells in
    elim (cases_lt (length (since ++ cell)) least) [
      | inl few ↦ (
          let rest = blocks-long least (since ++ cell) cells in
          let same = ap (λ (l : List (List ℕ)). length l * least) (blocks-short least since cell cells few) in
          omega (arith, rest, same, both, sum))
      | inr many ↦ (
          let rest = blocks-long least [] cells in
          let same = ap (λ (l : List (List ℕ)). length l * least) (blocks-full least since cell cells many) in
          omega (arith, rest, same, both, sum, many))
    ]

none-of-none : (b : Bool) (u : Option Usual) → u ≡ None → (if b then None else u) ≡ None
none-of-none true u none = refl
none-of-none false u none = none

-- fewer samples than four blocks have say nothing of what is usual
pub usual-of-few : (num den n : ℕ) (cells : List (List ℕ)) → n ≡ sum_by length cells → n < 4 * least_block num den 0 → usual_of num den n cells ≡ None
unfolding usual_of
usual-of-few num den n cells total few =
    let least = least_block num den n in
    let blocks = blocks_from least [] cells in
    let more : least_block num den 0 ≤ least = omega arith in
    let long = blocks-long least [] cells in
    let short : length blocks < 4 = elim (cases_lt (length blocks) 4) [
      | inl lt ↦ lt
      | inr ge ↦ (let many : 4 * least ≤ length blocks * least = mul-le-mul_right least ge in absurd (omega (arith, many, long, more, few, total)))
    ] in
    let yes : ltb (length blocks) 4 ≡ true = grind (arith, nat_tests) in
    let none : usual_of_blocks num den blocks ≡ None = ap {B = Option Usual} (λ (b : Bool). if b then None else Some (record { value = lower_quartile (map (tail_value num den) blocks); half = lower_quartile (map (tail_value num (2 * den)) blocks) })) yes in
    none-of-none (num == 0) (usual_of_blocks num den blocks) none

-- for each of some tails
pub usual-of-none : (n : ℕ) (cells : List (List ℕ)) (tails : List Tail) → n ≡ sum_by length cells → All (λ (t : Tail). n < 4 * least_block t.num t.den 0) tails
    → map (λ (t : Tail). usual_of t.num t.den n cells) tails ≡ map (λ (t : Tail). None) tails
usual-of-none n cells [] total few = refl
usual-of-none n cells (t ∷ tails) total few =
    let head = usual-of-few t.num t.den n cells total (All-head (λ (t : Tail). n < 4 * least_block t.num t.den 0) t tails few) in
    let rest = usual-of-none n cells tails total (All-tail (λ (t : Tail). n < 4 * least_block t.num t.den 0) t tails few) in
    ap (λ (u : Option Usual). u ∷ map (λ (t : Tail). usual_of t.num t.den n cells) tails) head ∙ ap (λ (l : List (Option Usual)). None ∷ l) rest
