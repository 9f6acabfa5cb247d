-- The interval of a quantile of samples in batches, whose histograms are hs.
use Rattle.std.specs.Prelude.{◌≡◌, ◌⊎◌, ℕ, ◌-◌, ◌^◌, ◌≤◌, min, nat_lt, if◌then◌else◌, List, Option, Some, None, IfSome, IsSome}
use Rattle.std.specs.List.{sum_by}
use Rattle.hdr_base.specs.Classes.{Resolution, lowest_of}
use Rattle.hdr_base.specs.Fractions.{Ratio}
use Rattle.hdr_model.specs.Plain.{Plain}
use Rattle.hdr_compare.specs.EndsOf.{IsFirstOfInterval, IsLastOfInterval}
use Rattle.hdr_compare.specs.Counted.{IsCounted}
use Rattle.hdr_compare.specs.declared.ends.Basis.{Basis}
use Rattle.hdr_compare.specs.declared.interval.Interval.{Interval}
use Rattle.hdr_compare.specs.declared.counting.Counted.{Counted}
use Rattle.hdr_compare.specs.declared.tiers.Tier.{Tier}

-- the value before another, if there is one
abbrev pub before : ℕ → Option ℕ
before v = if nat_lt 0 v then Some (v - 1) else None

abbrev pub samples_of : List Plain → ℕ
samples_of hs = sum_by (λ h. h.total) hs

-- the samples of an interval count as e independent ones
pub record IsBasis (hs : List Plain) (q : Ratio) (tier : Tier) (e : ℕ) (b : Basis) : Type 0 where
  pub samples : b.samples ≡ samples_of hs
  pub independent : b.independent ≡ e
  pub quantile : b.quantile ≡ q
  pub tier_is : b.tier ≡ tier

-- the lower end of an interval: all samples count as at most as many independent ones as by those below it
pub record IsLowEnd (hs : List Plain) (q : Ratio) (tier : Tier) (e low : ℕ) : Type 0 where
  pub under : Counted
  pub counted : IsCounted tier hs (before low) under
  pub most : e ≤ under.independent
  pub basis : Basis
  pub is_basis : IsBasis hs q tier e basis
  pub first : IsFirstOfInterval basis under.count

-- the upper end: as by those that are at most it
pub record IsHighEnd (hs : List Plain) (q : Ratio) (tier : Tier) (e high : ℕ) : Type 0 where
  pub upto : Counted
  pub counted : IsCounted tier hs (Some high) upto
  pub most : e ≤ upto.independent
  pub basis : Basis
  pub is_basis : IsBasis hs q tier e basis
  pub last : IsLastOfInterval basis upto.count

-- both ends of an interval, as far as the samples have them
pub record AreEnds (hs : List Plain) (q : Ratio) (tier : Tier) (i : Interval) : Type 0 where
  pub low : IfSome i.low.value (IsLowEnd hs q tier i.low.independent)
  pub high : IfSome i.high.value (IsHighEnd hs q tier i.high.independent)

-- an interval has a lower end if 0 is one, at which no samples are below it, and an upper end if the greatest value of 64 bits is one
pub record HasReachedEnds (hs : List Plain) (q : Ratio) (tier : Tier) (i : Interval) : Type 0 where
  pub low : IsLowEnd hs q tier i.low.independent 0 → IsSome i.low.value
  pub high : IsHighEnd hs q tier i.high.independent (2 ^ 64 - 1) → IsSome i.high.value

-- all samples count as e independent ones by those that are at most some value
pub record IsCountOf (hs : List Plain) (tier : Tier) (e : ℕ) : Type 0 where
  pub value : Option ℕ
  pub upto : Counted
  pub counted : IsCounted tier hs value upto
  pub is : e ≡ upto.independent

-- they count as many as before, or as by those that are at most some value
abbrev pub CountsAs : List Plain → Tier → (before e : ℕ) → Type 0
CountsAs hs tier n e = (e ≡ n) ⊎ IsCountOf hs tier e

-- for each end of an interval they count as by those that are at most some value
pub record EndsCount (hs : List Plain) (tier : Tier) (i : Interval) : Type 0 where
  pub low : IsCountOf hs tier i.low.independent
  pub high : IsCountOf hs tier i.high.independent

-- for each end they count as at most as many as by those below the class of the interval's value, and by those that are at most it
pub record CountsByValue (g : Resolution) (hs : List Plain) (tier : Tier) (i : Interval) : Type 0 where
  pub below : Counted
  pub counted_below : IsCounted tier hs (before (lowest_of g i.value)) below
  pub upto : Counted
  pub counted_upto : IsCounted tier hs (Some i.value) upto
  pub low : i.low.independent ≤ min below.independent upto.independent
  pub high : i.high.independent ≤ min below.independent upto.independent
