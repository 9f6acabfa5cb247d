use Rattle.std.proofs.Common.{ℕ, ◌+◌, ◌<◌, ◌≤◌, List, [], ◌∷◌, ◌++◌, inl, inr, arith}
use Rattle.std.proofs.Math.Nat.{eq-or-lt_of_le}
use Rattle.std.proofs.lemmas.Grind.{elements}
use Rattle.std.proofs.lemmas.Bool.{cases_lt}
use Rattle.std.specs.List.{All, Contains}
use Rattle.std.proofs.lemmas.List.Elements.{All-push, Contains-push, Contains-append_left}
use Rattle.hdr_draw.specs.Steps.{IsStep, IsStrictlyAscending, AreSteps, step_of}
use Rattle.hdr_draw.proofs.StepOrder.{are_steps, next_is_above, steps_ascend, index_of}

still_below : (a b : ℕ) (xs : List ℕ) → All (λ n. n < a) xs → a < b → All (λ n. n < b) xs
still_below a b xs p h = search (arith)

pub ascending : (x : ℕ) (xs : List ℕ) → IsStrictlyAscending xs → All (λ n. n < x) xs → IsStrictlyAscending (xs ++ x ∷ [])
ascending x xs a e = grind (arith, elements)

-- the same steps where the one at the index lies outside the scale
pub left_out : (low high index : ℕ) (xs : List ℕ) → AreSteps low high index xs → (low ≤ step_of index → step_of index ≤ high → ⊥)
    → AreSteps low high (index + 1) xs
left_out low high index xs a none = record {
  steps = a.steps;
  inside = a.inside;
  below = still_below (step_of index) (step_of (index + 1)) xs a.below (next_is_above index);
  ascending = a.ascending;
  every = λ k h l m. elim (eq-or-lt_of_le (let g : k ≤ index = omega arith in g)) [
    | inl e ↦ absurd (none (rw (← e) l) (rw (← e) m))
    | inr g ↦ a.every k g l m
  ];
}

pub pushed : (low high index : ℕ) (xs : List ℕ) → AreSteps low high index xs → low ≤ step_of index → step_of index ≤ high
    → AreSteps low high (index + 1) (xs ++ step_of index ∷ [])
pushed low high index xs a p q = record {
  steps = All-push IsStep xs (step_of index) a.steps (are_steps index);
  inside = All-push (λ n. (low ≤ n) × (n ≤ high)) xs (step_of index) a.inside (p, q);
  below = All-push (λ n. n < step_of (index + 1)) xs (step_of index) (still_below (step_of index) (step_of (index + 1)) xs a.below (next_is_above index)) (next_is_above index);
  ascending = ascending (step_of index) xs a.ascending a.below;
  every = λ k h l m. elim (eq-or-lt_of_le (let g : k ≤ index = omega arith in g)) [
    | inl e ↦ rw e (Contains-push xs (step_of index))
    | inr g ↦ Contains-append_left xs (step_of index ∷ []) (step_of k) (a.every k g l m)
  ];
}

-- all steps of a scale that ends before the step at an index
pub all_of : (low high index n : ℕ) (xs : List ℕ) → AreSteps low high index xs → high < step_of index → IsStep n → low ≤ n → n ≤ high → Contains xs n
all_of low high index n xs a above s l h =
    let p = index_of n s in
    let b : p.0 < index = elim (cases_lt p.0 index) [
      | inl g ↦ g
      | inr g ↦ let m = steps_ascend index p.0 g in absurd (omega arith)
    ] in
    rw p.1 (a.every p.0 b (rw (← p.1) l) (rw (← p.1) h))
