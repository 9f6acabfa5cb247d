-- Ends that are the nearest.
use Rattle.std.proofs.Common.{◌≡◌, ◌⊎◌, ℕ, zero, suc, ◌+◌, ◌-◌, ◌^◌, ◌≤◌, List, Option, None, Some, IfSome, arith, refl, inl, inr, subst}
use Rattle.hdr_base.specs.Fractions.{Ratio}
use Rattle.hdr_model.specs.Plain.{Plain}
use Rattle.hdr_compare.specs.Counted.{IsCounted}
use Rattle.hdr_compare.specs.EndsOf.{IsFirstOfInterval, IsLastOfInterval}
use Rattle.hdr_compare.specs.Intervals.{before, samples_of}
use Rattle.hdr_compare.specs.Nearest.{IsGreatestAndNoEnd, IsLeastAndNoEnd, IsNearestHigh, IsNearestLow, IsNoHighEnd, IsNoLowEnd, IsReachedDown, IsReachedUp}
use Rattle.hdr_compare.specs.declared.ends.Basis.{Basis}
use Rattle.hdr_compare.specs.declared.counting.Counted.{Counted}
use Rattle.hdr_compare.specs.declared.tiers.Tier.{Tier}

-- fewer independent samples leave what is not an end
pub no_low_end_by_fewer : (hs : List Plain) (q : Ratio) (tier : Tier) (d e v : ℕ) (under : Counted) → e ≤ d → IsNoLowEnd hs q tier d v under → IsNoLowEnd hs q tier e v under
no_low_end_by_fewer hs q tier d e v under fewer other =
    record { counted = other.counted; basis = other.basis; more = omega (arith, fewer, other.more); is_basis = other.is_basis; not_first = other.not_first }

pub reached_by_fewer : (all : Plain) (hs : List Plain) (q : Ratio) (tier : Tier) (d e classes value low : ℕ) → e ≤ d → IsReachedDown all hs q tier d classes value low
    → IsReachedDown all hs q tier e classes value low
reached_by_fewer all hs q tier d e zero value low fewer reached = reached
reached_by_fewer all hs q tier d e (suc classes) value low fewer reached =
    (reached.0, reached.1, reached_by_fewer all hs q tier d e classes value reached.0 fewer reached.2, no_low_end_by_fewer hs q tier d e reached.0 reached.1 fewer reached.3, reached.4)

-- what does not begin an interval is not a lower end
pub no_low_end : (hs : List Plain) (v : ℕ) (under : Counted) (basis : Basis) → IsCounted basis.tier hs (before v) under → basis.samples ≡ samples_of hs
    → (IsFirstOfInterval basis under.count → ⊥) → IsNoLowEnd hs basis.quantile basis.tier basis.independent v under
no_low_end hs v under basis counted samples not_first = record {
  counted = counted;
  basis = basis;
  more = omega arith;
  is_basis = record { samples = samples; independent = refl; quantile = refl; tier_is = refl };
  not_first = not_first;
}

-- 0 is the nearest end after the least class
pub nearest_at_0 : (all : Plain) (hs : List Plain) (q : Ratio) (tier : Tier) (d e classes value next : ℕ) (end : Option ℕ) → e ≤ d → IsReachedDown all hs q tier d classes value next
    → IsLeastAndNoEnd hs q tier d next ⊎ (2 ^ 64 - 1 ≤ classes) → IfSome end (λ low. low ≡ 0) → IfSome end (IsNearestLow all hs q tier e value)
nearest_at_0 all hs q tier d e classes value next None fewer reached done at_zero = at_zero
nearest_at_0 all hs q tier d e classes value next (Some low) fewer reached done at_zero =
    let least : IsLeastAndNoEnd hs q tier e next ⊎ (2 ^ 64 - 1 ≤ classes) = elim done [
      | inl none ↦ inl (none.0, no_low_end_by_fewer hs q tier d e next none.0 fewer none.1, none.2)
      | inr many ↦ inr many
    ] in
    record {
      classes = classes;
      next = next;
      reached = reached_by_fewer all hs q tier d e classes value next fewer reached;
      is = inr (at_zero, least);
    }

-- one class more
pub one_more : (all : Plain) (hs : List Plain) (q : Ratio) (tier : Tier) (e classes value low : ℕ) → IsReachedDown all hs q tier e (suc classes) value low
    → IsReachedDown all hs q tier e (classes + 1) value low
one_more all hs q tier e classes value low reached =
    let next : suc classes ≡ classes + 1 = omega arith in
    subst (λ n. IsReachedDown all hs q tier e n value low) next reached

-- the same of upper ends
pub no_high_end_by_fewer : (hs : List Plain) (q : Ratio) (tier : Tier) (d e v : ℕ) (upto : Counted) → e ≤ d → IsNoHighEnd hs q tier d v upto → IsNoHighEnd hs q tier e v upto
no_high_end_by_fewer hs q tier d e v upto fewer other =
    record { counted = other.counted; basis = other.basis; more = omega (arith, fewer, other.more); is_basis = other.is_basis; not_last = other.not_last }

pub reached_up_by_fewer : (all : Plain) (hs : List Plain) (q : Ratio) (tier : Tier) (d e classes value high : ℕ) → e ≤ d → IsReachedUp all hs q tier d classes value high
    → IsReachedUp all hs q tier e classes value high
reached_up_by_fewer all hs q tier d e zero value high fewer reached = reached
reached_up_by_fewer all hs q tier d e (suc classes) value high fewer reached =
    (reached.0, reached.1, reached_up_by_fewer all hs q tier d e classes value reached.0 fewer reached.2, no_high_end_by_fewer hs q tier d e reached.0 reached.1 fewer reached.3, reached.4)

-- what does not end an interval is not an upper end
pub no_high_end : (hs : List Plain) (v : ℕ) (upto : Counted) (basis : Basis) → IsCounted basis.tier hs (Some v) upto → basis.samples ≡ samples_of hs
    → (IsLastOfInterval basis upto.count → ⊥) → IsNoHighEnd hs basis.quantile basis.tier basis.independent v upto
no_high_end hs v upto basis counted samples not_last = record {
  counted = counted;
  basis = basis;
  more = omega arith;
  is_basis = record { samples = samples; independent = refl; quantile = refl; tier_is = refl };
  not_last = not_last;
}

-- the greatest value is the nearest end after the greatest class
pub nearest_at_last : (all : Plain) (hs : List Plain) (q : Ratio) (tier : Tier) (d e classes value next : ℕ) (end : Option ℕ) → e ≤ d → IsReachedUp all hs q tier d classes value next
    → IsGreatestAndNoEnd hs q tier d next ⊎ (2 ^ 64 - 1 ≤ classes) → IfSome end (λ high. high ≡ 2 ^ 64 - 1) → IfSome end (IsNearestHigh all hs q tier e value)
nearest_at_last all hs q tier d e classes value next None fewer reached done at_last = at_last
nearest_at_last all hs q tier d e classes value next (Some high) fewer reached done at_last =
    let most : IsGreatestAndNoEnd hs q tier e next ⊎ (2 ^ 64 - 1 ≤ classes) = elim done [
      | inl none ↦ inl (none.0, no_high_end_by_fewer hs q tier d e next none.0 fewer none.1, none.2)
      | inr many ↦ inr many
    ] in
    record {
      classes = classes;
      next = next;
      reached = reached_up_by_fewer all hs q tier d e classes value next fewer reached;
      is = inr (at_last, most);
    }

-- one class more upwards
pub one_more_up : (all : Plain) (hs : List Plain) (q : Ratio) (tier : Tier) (e classes value high : ℕ) → IsReachedUp all hs q tier e (suc classes) value high
    → IsReachedUp all hs q tier e (classes + 1) value high
one_more_up all hs q tier e classes value high reached =
    let next : suc classes ≡ classes + 1 = omega arith in
    subst (λ n. IsReachedUp all hs q tier e n value high) next reached
