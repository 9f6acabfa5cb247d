-- The confidence intervals of percentiles along a curve.
use Rattle.std.specs.Prelude.{◌≡◌, ℕ, ◌-◌, unwrap_or}
use Rattle.hdr_base.specs.Fractions.{Ratio}
use Rattle.hdr_compare.specs.declared.tiers.Tier.TheVariants.{FivePercent}
use Rattle.hdr_runs.specs.Points.{IsPointOf, greatest_of, least_of}
use Rattle.hdr_runs.specs.declared.band.BandPoint.{BandPoint}
use Rattle.hdr_runs.specs.declared.point.Point.{Point}
use Rattle.hdr_runs.specs.declared.side.Side.{Side}

-- the quantile that as many of 1,000,000 samples are above
abbrev pub quantile_below : ℕ → Ratio
quantile_below above = record { num = 1000000 - above; den = 1000000 }

-- the interval of 95 % of that quantile; the least or the greatest sample stands for an end that there is not
pub record IsBandPointOf (side : Side) (b : BandPoint) : Type 0 where
  pub point : Point
  pub is : IsPointOf side (quantile_below b.above) FivePercent point
  pub low : b.low ≡ unwrap_or point.measured.low (least_of side)
  pub high : b.high ≡ unwrap_or point.measured.high (greatest_of side)

-- the same at a quantile
abbrev pub IsBandPointAt : Side → ℕ → BandPoint → Type 0
IsBandPointAt side above b = (b.above ≡ above) × IsBandPointOf side b
