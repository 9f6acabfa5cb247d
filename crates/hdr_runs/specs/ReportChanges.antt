-- What a report says of the change of a percentile, from x to y.
use Rattle.std.specs.Prelude.{◌≡◌, ◌⊎◌, ℕ, min, max, Option, Some, None, MatchOption}
use Rattle.hdr_compare.specs.Changes.{FallsBelowBy, IsGreatestRatio, IsLeastRatio, IsOpen}
use Rattle.hdr_compare.specs.Shifts.{AreShifted}
use Rattle.hdr_compare.specs.Verdicts.{HasNoRatio, IsNearestRatio, IsVerdict}
use Rattle.hdr_compare.specs.declared.changes.Measured.{Measured}
use Rattle.hdr_runs.specs.declared.change.Change.{Change}

-- an end of the ratios, or the nearest ratio if that is rounded past it
abbrev pub least_with : (end ratio : Option ℕ) → Option ℕ
least_with None ratio = None
least_with (Some end) None = Some end
least_with (Some end) (Some ratio) = Some (min end ratio)

abbrev pub greatest_with : (end ratio : Option ℕ) → Option ℕ
greatest_with None ratio = None
greatest_with (Some end) None = Some end
greatest_with (Some end) (Some ratio) = Some (max end ratio)

-- the verdict and the ratios of both, in the smallest units in which they can be compared; a change from 0 has none
pub record IsChange (x y : Measured) (c : Change) : Type 0 where
  pub before : Measured
  pub after : Measured
  pub are_shifted : AreShifted x y before after
  pub verdict : IsVerdict before after c.verdict
  pub ratio : MatchOption c.ratio (HasNoRatio before.value after.value) (IsNearestRatio before.value after.value)
  pub low : Option ℕ
  pub low_is : MatchOption low ((before.value ≡ 0) ⊎ IsOpen before.high after.low) (IsLeastRatio before after)
  pub least : c.least ≡ least_with low c.ratio
  pub high : Option ℕ
  pub high_is : MatchOption high ((before.value ≡ 0) ⊎ (FallsBelowBy 10000000 1000 before after → ⊥)) (IsGreatestRatio before after)
  pub greatest : c.greatest ≡ greatest_with high c.ratio
