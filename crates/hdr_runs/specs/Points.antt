-- Percentiles of the samples of a run, with their intervals.
use Rattle.std.specs.Prelude.{◌≡◌, ℕ, ◌<◌, min, max, List, length}
use Rattle.std.specs.Option.{option_map}
use Rattle.hdr_base.specs.Fractions.{Ratio}
use Rattle.hdr_model.specs.Plain.{Plain, resolution}
use Rattle.hdr_model.specs.Quantiles.{IsTopNear, ranked_sample, value_at_quantile}
use Rattle.hdr_model.specs.Samples.{StandsFor}
use Rattle.hdr_compare.specs.Intervals.{AreEnds, CountsByValue, EndsCount, HasReachedEnds}
use Rattle.hdr_compare.specs.Nearest.{AreNearest}
use Rattle.hdr_compare.specs.Runs.{all_of, batches_of}
use Rattle.hdr_compare.specs.declared.changes.Measured.{Measured}
use Rattle.hdr_compare.specs.declared.interval.Interval.{Interval}
use Rattle.hdr_compare.specs.declared.tiers.Tier.{Tier}
use Rattle.hdr_runs.specs.declared.point.Point.{Point}
use Rattle.hdr_runs.specs.declared.side.Side.{Side}

-- the batches of samples, and all of them
abbrev pub batches_of_side : Side → List Plain
batches_of_side side = batches_of side.run

abbrev pub samples_of_side : Side → Plain
samples_of_side side = all_of side.run

-- the least and the greatest sample
abbrev pub least_of : Side → ℕ
least_of side = side.min

abbrev pub greatest_of : Side → ℕ
greatest_of side = side.max

-- the decimals of a unit
abbrev pub decimals_of : Side → ℕ
decimals_of side = side.decimals

-- a value within the least and the greatest sample
abbrev pub within : Side → ℕ → ℕ
within side v = max (min v (greatest_of side)) (least_of side)

-- the value and the ends of an interval, within the least and the greatest sample
abbrev pub measured_of : Side → Interval → Measured
measured_of side i = record {
  value = within side i.value;
  low = option_map (within side) i.low.value;
  high = option_map (within side) i.high.value;
}

-- a percentile and its interval: the value is that of the exact rank, and the ends are those of the batches, as far as these reach
pub record IsPointOf (side : Side) (q : Ratio) (tier : Tier) (p : Point) : Type 0 where
  pub interval : Interval
  pub ends : AreEnds (batches_of_side side) q tier interval
  pub reached : HasReachedEnds (batches_of_side side) q tier interval
  pub counts : EndsCount (batches_of_side side) tier interval
  pub value : (S : List ℕ) → StandsFor (samples_of_side side) S → 0 < length S → 0 < q.num
      → IsTopNear (samples_of_side side) (ranked_sample q S) interval.value
  pub at_quantile : interval.value ≡ value_at_quantile (samples_of_side side) q
  pub nearest : AreNearest (samples_of_side side) (batches_of_side side) q tier interval
  pub by_value : CountsByValue (resolution (samples_of_side side)) (batches_of_side side) tier interval
  pub measured : p.measured ≡ measured_of side interval
  pub independent : p.independent ≡ min interval.low.independent interval.high.independent
