-- On which side of a bound a quantile is, beyond chance.
use Rattle.std.specs.Prelude.{◌≡◌, ℕ, min, List}
use Rattle.hdr_base.specs.Fractions.{Ratio}
use Rattle.hdr_model.specs.Plain.{Plain, resolution}
use Rattle.hdr_model.specs.Quantiles.{value_at_quantile}
use Rattle.hdr_compare.specs.Counted.{IsCounted}
use Rattle.hdr_compare.specs.EndsOf.{IsFirstOfInterval, IsLastOfInterval}
use Rattle.hdr_compare.specs.Intervals.{AreEnds, CountsByValue, EndsCount, HasReachedEnds, IsBasis}
use Rattle.hdr_compare.specs.Nearest.{AreNearest}
use Rattle.hdr_compare.specs.Sums.{AreLeastClasses, IsSumOf}
use Rattle.hdr_compare.specs.declared.counting.Counted.{Counted}
use Rattle.hdr_compare.specs.declared.ends.Basis.{Basis}
use Rattle.hdr_compare.specs.declared.interval.Interval.{Interval}
use Rattle.hdr_compare.specs.declared.position.Position.{Position}
use Rattle.hdr_compare.specs.declared.position.Position.TheVariants.{Within, Beyond, Between, Open}
use Rattle.hdr_compare.specs.declared.position.WithinBound.{WithinBound}
use Rattle.hdr_compare.specs.declared.tiers.Tier.{Tier}

-- the samples suffice for both ends of an interval
abbrev pub HasBothEnds : Basis → Type 0
HasBothEnds b = IsFirstOfInterval b 0 × IsLastOfInterval b b.samples

-- neither end of an interval is on one side of a bound, within which `sure` samples are, and `perhaps` may be
pub record IsUndecided (b : Basis) (sure perhaps : ℕ) : Type 0 where
  pub not_within : IsLastOfInterval b sure → ⊥
  pub not_beyond : IsFirstOfInterval b perhaps → ⊥

-- within it: the interval ends with one of the samples that surely are; beyond it: it begins after all that may be
abbrev pub IsPosition : Basis → (sure perhaps : ℕ) → Position → Type 0
IsPosition b sure perhaps Within = IsLastOfInterval b sure
IsPosition b sure perhaps Beyond = IsFirstOfInterval b perhaps
IsPosition b sure perhaps Between = IsUndecided b sure perhaps × HasBothEnds b
IsPosition b sure perhaps Open = IsUndecided b sure perhaps × (HasBothEnds b → ⊥)

-- the same of the samples of batches, which count as many independent ones as for the quantile's interval, and by the class of
-- the bound: the fewest of these
pub record IsPositionOf (hs : List Plain) (q : Ratio) (tier : Tier) (w : WithinBound) (position : Position) : Type 0 where
  pub all : Plain
  pub sum : IsSumOf hs all
  pub classes : ∥ AreLeastClasses hs (resolution all) ∥₁
  pub interval : Interval
  pub value : interval.value ≡ value_at_quantile all q
  pub ends : AreEnds hs q tier interval
  pub reached : HasReachedEnds hs q tier interval
  pub counts : EndsCount hs tier interval
  pub by_value : CountsByValue (resolution all) hs tier interval
  pub nearest : AreNearest all hs q tier interval
  pub counted : Counted
  pub is_counted : IsCounted tier hs w.most counted
  pub basis : Basis
  pub is_basis : IsBasis hs q tier (min (min interval.low.independent interval.high.independent) counted.independent) basis
  pub is_position : IsPosition basis w.sure w.perhaps position
