-- Numbers that are zeros.
use Rattle.std.proofs.Common.{◌≡◌, ℕ, suc, ◌+◌, ◌*◌, ◌<◌, ◌≤◌, max, true, sum, Option, Some, None, List, [], ◌∷◌, ◌++◌, length, get_or, refl, sym, ap, ◌∙◌, arith, inl, inr}
use Rattle.std.proofs.lemmas.Bool.{cases_lt}
use Rattle.std.proofs.lemmas.List.Sums.{sum_by_push}
use Rattle.hdr_base.specs.Classes.{Resolution, value_of}
use Rattle.hdr_model.specs.Statistics.{median_of, weight_from}
use Rattle.hdr_model.specs.Equality.{same_numbers}
use Rattle.hdr_model.specs.Merging.{top_class}
use Rattle.hdr_model.proofs.EqualityZeros.{numbers-same}

-- one more zero adds nothing to a sum
pub sum-more-none : (ns : List ℕ) → sum (ns ++ 0 ∷ []) ≡ sum ns
sum-more-none ns = omega (arith, sum_by_push (λ x. x) ns 0)

pub weight-more-none : (g : Resolution) (k : ℕ) (ns : List ℕ) → weight_from g k (ns ++ 0 ∷ []) ≡ weight_from g k ns
weight-more-none g k [] = omega arith
weight-more-none g k (n ∷ ns) = ap (λ w. median_of g (value_of g k) * n + w) (weight-more-none g (suc k) ns)

pub used-same : (xs ys : List ℕ) (n : ℕ) → ((k : ℕ) → n ≤ k → get_or xs k 0 ≡ 0) → ((k : ℕ) → n ≤ k → get_or ys k 0 ≡ 0)
    → ((k : ℕ) → k < n → get_or xs k 0 ≡ get_or ys k 0) → true ≡ same_numbers xs ys
used-same xs ys n left right h =
    numbers-same xs ys (max (length xs) (length ys)) refl (λ k lt. elim (cases_lt k n) [
      | inl lt ↦ h k lt
      | inr ge ↦ left k ge ∙ sym (right k ge)
    ])

pub no-top : (g : Resolution) (mark : Option ℕ) → ((i : ℕ) → mark ≡ Some i → ⊥) → top_class g mark ≡ []
no-top g None none = refl
no-top g (Some i) none = absurd (none i refl)
