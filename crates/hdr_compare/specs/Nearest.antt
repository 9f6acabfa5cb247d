-- That an end of an interval is the nearest to the value at the quantile: no class between them is an end.
use Rattle.std.specs.Prelude.{◌≡◌, ◌⊎◌, ◌==◌, ℕ, zero, suc, ◌+◌, ◌-◌, ◌^◌, ◌≤◌, if◌then◌else◌, min, List, Some, IfSome}
use Rattle.hdr_base.specs.Classes.{lowest_of, top_of}
use Rattle.hdr_base.specs.Fractions.{Ratio}
use Rattle.hdr_model.specs.Plain.{Plain, resolution}
use Rattle.hdr_model.specs.Quantiles.{value_at_quantile}
use Rattle.hdr_compare.specs.Counted.{IsCounted}
use Rattle.hdr_compare.specs.EndsOf.{IsFirstOfInterval, IsLastOfInterval}
use Rattle.hdr_compare.specs.Intervals.{IsBasis, before, samples_of}
use Rattle.hdr_compare.specs.declared.ends.Basis.{Basis}
use Rattle.hdr_compare.specs.declared.counting.Counted.{Counted}
use Rattle.hdr_compare.specs.declared.interval.Interval.{Interval}
use Rattle.hdr_compare.specs.declared.tiers.Tier.{Tier}

-- the value of a rank among n samples
abbrev pub value_at_rank : Plain → (n rank : ℕ) → ℕ
value_at_rank all n rank = if n == 0 then 0 else value_at_quantile all (record { num = rank; den = n })

-- a value is not a lower end where the samples count as some number of independent ones that is e or more
pub record IsNoLowEnd (hs : List Plain) (q : Ratio) (tier : Tier) (e v : ℕ) (under : Counted) : Type 0 where
  pub counted : IsCounted tier hs (before v) under
  pub basis : Basis
  pub more : e ≤ basis.independent
  pub is_basis : IsBasis hs q tier basis.independent basis
  pub not_first : IsFirstOfInterval basis under.count → ⊥

-- from the class of a value downwards, this many classes with samples are not lower ends, and the next one begins with `low`
abbrev pub IsReachedDown : Plain → List Plain → Ratio → Tier → (e classes value low : ℕ) → Type 0
IsReachedDown all hs q tier e zero value low = low ≡ lowest_of (resolution all) value
IsReachedDown all hs q tier e (suc classes) value low =
    (v : ℕ) × (under : Counted) × IsReachedDown all hs q tier e classes value v × IsNoLowEnd hs q tier e v under
    × (low ≡ lowest_of (resolution all) (value_at_rank all (samples_of hs) under.count))

-- no samples are below a value, and it is not a lower end
abbrev pub IsLeastAndNoEnd : List Plain → Ratio → Tier → (e v : ℕ) → Type 0
IsLeastAndNoEnd hs q tier e v = (under : Counted) × IsNoLowEnd hs q tier e v under × (under.count ≡ 0)

-- the lower end is that of the first class downwards that is one, and 0 after the least class, or after as many as can be counted
pub record IsNearestLow (all : Plain) (hs : List Plain) (q : Ratio) (tier : Tier) (e value low : ℕ) : Type 0 where
  pub classes : ℕ
  pub next : ℕ
  pub reached : IsReachedDown all hs q tier e classes value next
  pub is : (low ≡ next) ⊎ ((low ≡ 0) × (IsLeastAndNoEnd hs q tier e next ⊎ (2 ^ 64 - 1 ≤ classes)))

-- the same of upper ends
pub record IsNoHighEnd (hs : List Plain) (q : Ratio) (tier : Tier) (e v : ℕ) (upto : Counted) : Type 0 where
  pub counted : IsCounted tier hs (Some v) upto
  pub basis : Basis
  pub more : e ≤ basis.independent
  pub is_basis : IsBasis hs q tier basis.independent basis
  pub not_last : IsLastOfInterval basis upto.count → ⊥

-- from the class of a value upwards, this many classes with samples are not upper ends, and the next one ends with `high`
abbrev pub IsReachedUp : Plain → List Plain → Ratio → Tier → (e classes value high : ℕ) → Type 0
IsReachedUp all hs q tier e zero value high = high ≡ top_of (resolution all) value
IsReachedUp all hs q tier e (suc classes) value high =
    (v : ℕ) × (upto : Counted) × IsReachedUp all hs q tier e classes value v × IsNoHighEnd hs q tier e v upto
    × (high ≡ value_at_rank all (samples_of hs) (min (upto.count + 1) (2 ^ 64 - 1)))

-- all samples are at most a value, and it is not an upper end
abbrev pub IsGreatestAndNoEnd : List Plain → Ratio → Tier → (e v : ℕ) → Type 0
IsGreatestAndNoEnd hs q tier e v = (upto : Counted) × IsNoHighEnd hs q tier e v upto × (samples_of hs ≤ upto.count)

-- the upper end is that of the first class upwards that is one, and the greatest value of 64 bits after the greatest class
pub record IsNearestHigh (all : Plain) (hs : List Plain) (q : Ratio) (tier : Tier) (e value high : ℕ) : Type 0 where
  pub classes : ℕ
  pub next : ℕ
  pub reached : IsReachedUp all hs q tier e classes value next
  pub is : (high ≡ next) ⊎ ((high ≡ 2 ^ 64 - 1) × (IsGreatestAndNoEnd hs q tier e next ⊎ (2 ^ 64 - 1 ≤ classes)))

-- the ends of an interval are the nearest to its value
pub record AreNearest (all : Plain) (hs : List Plain) (q : Ratio) (tier : Tier) (i : Interval) : Type 0 where
  pub low : IfSome i.low.value (IsNearestLow all hs q tier i.low.independent i.value)
  pub high : IfSome i.high.value (IsNearestHigh all hs q tier i.high.independent i.value)
