-- The ends of the confidence intervals of percentiles.
use Rattle.std.specs.Prelude.{◌≡◌, ◌⊎◌, ℕ, min, max, List, None}
use Rattle.std.specs.Option.{option_map}
use Rattle.hdr_base.specs.Fractions.{Ratio}
use Rattle.hdr_model.specs.Plain.{Plain, resolution}
use Rattle.hdr_model.specs.Quantiles.{value_at_quantile}
use Rattle.hdr_compare.specs.Intervals.{AreEnds, CountsByValue, EndsCount, HasReachedEnds, samples_of}
use Rattle.hdr_compare.specs.Nearest.{AreNearest}
use Rattle.hdr_compare.specs.declared.interval.Interval.{Interval}
use Rattle.hdr_compare.specs.declared.tiers.Tier.TheVariants.{FivePercent}
use Rattle.hdr_summary.specs.declared.figures.Ends.{Ends}
use Rattle.hdr_summary.specs.declared.percentile.Percentile.{Percentile}
use Rattle.hdr_runs.specs.Reports.{HasNoInterval}

-- neither end is known
abbrev pub AreOpen : Ends → Type 0
AreOpen e = (e.low ≡ None) × (e.high ≡ None)

-- a value within the least and the greatest sample
abbrev pub between : (least greatest : ℕ) → ℕ → ℕ
between least greatest v = max (min v greatest) least

-- the ends of the interval of 95 % of a quantile of all samples, which are those of batches, within the least and the greatest sample
pub record AreEndsOf (all : Plain) (hs : List Plain) (least greatest : ℕ) (q : Ratio) (e : Ends) : Type 0 where
  pub interval : Interval
  pub ends : AreEnds hs q FivePercent interval
  pub reached : HasReachedEnds hs q FivePercent interval
  pub counts : EndsCount hs FivePercent interval
  pub at_quantile : interval.value ≡ value_at_quantile all q
  pub nearest : AreNearest all hs q FivePercent interval
  pub by_value : CountsByValue (resolution all) hs FivePercent interval
  pub low : e.low ≡ option_map (between least greatest) interval.low.value
  pub high : e.high ≡ option_map (between least greatest) interval.high.value

-- those of a percentile: none if it has more than 4 decimals, and none without samples
pub record AreEndsAt (all : Plain) (hs : List Plain) (least greatest : ℕ) (percentile : Percentile) (e : Ends) : Type 0 where
  pub beyond : HasNoInterval percentile.quantile → AreOpen e
  pub within : (HasNoInterval percentile.quantile → ⊥)
      → AreEndsOf all hs least greatest percentile.quantile e ⊎ ((samples_of hs ≡ 0) × AreOpen e)
