-- Scales: numbers along a length.
use Rattle.std.specs.Prelude.{◌≡◌, ℕ, ◌+◌, ◌-◌, ◌*◌, ◌/◌, ◌≤◌, min, max}
use Rattle.hdr_draw.specs.Logarithm.{IsLogarithm}
use Rattle.hdr_draw.specs.Rows.{Ends}
use Rattle.hdr_draw.specs.Steps.{IsStepAbove, IsStepBelow}

-- where a scale begins, and how far it reaches
pub record Extent : Type 0 where
  pub from : ℕ
  pub span : ℕ

-- how far along a length a number lies, rounded down, within that length
unfoldable pub along : Extent → ℕ → ℕ → ℕ
along e length n = min length ((n - e.from) * length / e.span)

-- a scale of values: from the step at or below the least value to the step at or above the greatest, and above the low end
pub record IsValueScale (e : Ends) (least greatest : ℕ) : Type 0 where
  pub low : IsStepBelow (max 1 least) e.low
  pub high : IsStepAbove (max greatest (e.low + 1)) e.high

-- how far along a length a value lies on a logarithmic scale
pub record IsValuePlace (e : Ends) (length value place : ℕ) : Type 0 where
  pub from : ℕ
  pub to : ℕ
  pub logarithm : ℕ
  pub of_low : IsLogarithm e.low from
  pub of_high : IsLogarithm e.high to
  pub of_value : IsLogarithm (max 1 value) logarithm
  pub is : place ≡ along (record { from = from; span = max 1 (to - from) }) length logarithm

-- how far along a length the quantile lies that a part of the samples is above, on a logarithmic scale
pub record IsQuantilePlace (e : Extent) (length samples part place : ℕ) : Type 0 where
  pub of_samples : ℕ
  pub of_part : ℕ
  pub samples_logarithm : IsLogarithm (max 1 samples) of_samples
  pub part_logarithm : IsLogarithm (max 1 part) of_part
  pub is : place ≡ along e length (of_samples - of_part)

-- a scale from the quantile 0 to 1 - 1/(2n) for n samples, or to p99 if that is greater
pub record IsQuantileScale (e : Extent) (samples : ℕ) : Type 0 where
  pub of_twice : ℕ
  pub of_hundred : ℕ
  pub twice_logarithm : IsLogarithm (2 * max 1 samples) of_twice
  pub hundred_logarithm : IsLogarithm 100 of_hundred
  pub from : e.from ≡ 0
  pub span : e.span ≡ max of_hundred of_twice

-- a scale reaches to the quantile 1 - 1/inverse
pub record HasQuantile (e : Extent) (inverse : ℕ) : Type 0 where
  pub logarithm : ℕ
  pub of_inverse : IsLogarithm (max 1 inverse) logarithm
  pub within : logarithm ≤ e.from + e.span

-- which of 8 equal parts of a logarithmic scale up to the greatest number has a number of samples
pub record IsColour (samples greatest colour : ℕ) : Type 0 where
  pub of_samples : ℕ
  pub of_greatest : ℕ
  pub samples_logarithm : IsLogarithm (max 1 samples) of_samples
  pub greatest_logarithm : IsLogarithm (max 1 greatest) of_greatest
  pub is : colour ≡ min 7 (8 * of_samples / max 1 of_greatest)
