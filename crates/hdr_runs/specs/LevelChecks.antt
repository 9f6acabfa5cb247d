-- The comparison of levels with numbers, and with the samples of a tag of logs.
use Rattle.std.specs.Prelude.{⊤, ◌≡◌, ◌≢◌, ◌↔◌, ℕ, ◌+◌, ◌-◌, ◌^◌, ◌<◌, ◌≤◌, min, List, length, Option, Some, None, MatchOption}
use Rattle.hdr_base.specs.Fractions.{Ratio}
use Rattle.hdr_compare.specs.Intervals.{samples_of}
use Rattle.hdr_compare.specs.declared.tiers.Tier.{Tier}
use Rattle.hdr_input.specs.Bounds.{HasBound, count_within, sum_error}
use Rattle.hdr_input.specs.Bounds as bounds
use Rattle.hdr_input.specs.declared.bound_tally.BoundTally.{BoundTally}
use Rattle.hdr_input.specs.declared.number.Number.{Number}
use Rattle.hdr_summary.specs.Classes.{Known, AreByClass}
use Rattle.hdr_summary.specs.Levels.{IsOnSide, bound_of}
use Rattle.hdr_summary.specs.Means.{IsMeanWithin}
use Rattle.hdr_summary.specs.Verdicts.{IsVerdict, MatchVerdict}
use Rattle.hdr_summary.specs.declared.levels.Level.{Level}
use Rattle.hdr_summary.specs.declared.levels.Measure.{Measure}
use Rattle.hdr_summary.specs.declared.levels.Measure.TheVariants.{Count, Mean, Quantile}
use Rattle.hdr_summary.specs.declared.means.SampleSum.{SampleSum}
use Rattle.hdr_summary.specs.declared.verdicts.Verdict.TheVariants.{Kept}
use Rattle.hdr_runs.specs.LevelVerdicts.{HasInterval, IsOfInterval, IsLevelVerdict}
use Rattle.hdr_runs.specs.LogCounts.{sum_of}
use Rattle.hdr_runs.specs.Points.{batches_of_side}
use Rattle.hdr_runs.specs.declared.checks.LevelIntervals.{LevelIntervals}
use Rattle.hdr_runs.specs.declared.level_check.LevelCheck.{LevelCheck}
use Rattle.hdr_runs.specs.declared.log_counts.TagCounts.{TagCounts}

-- a figure is compared without an interval: it has none, or none is asked for
abbrev pub IsWithoutInterval : Option LevelIntervals → Measure → Type 0
IsWithoutInterval intervals measure = MatchOption intervals ⊤ (λ i. IsOfInterval measure → ⊥)

-- the tier of the interval of a figure: a percentile has that of the intervals, and any other figure has none
abbrev pub tier_for : Option LevelIntervals → Measure → Option Tier
tier_for None measure = None
tier_for (Some i) (Quantile q) = Some i.tier
tier_for (Some i) measure = None

-- a level is compared with the counts of samples, or with the interval of its percentile
pub record IsByCounts (level : Level) (intervals : Option LevelIntervals) (c : LevelCheck) : Type 0 where
  pub count : level.measure ≡ Count
      → MatchVerdict c.check.verdict (IsOnSide level.side c.check.counts.total 0 level.number.digits level.number.decimals)
  pub none : level.measure ≢ Count → intervals ≡ None → c.check.counts.total ≡ 0 → c.check.verdict ≡ Kept
  pub samples : level.measure ≢ Count → IsWithoutInterval intervals level.measure → 0 < c.check.counts.total
      → IsVerdict level.measure level.side c.check.counts.total c.check.counts.sure c.check.counts.perhaps c.check.verdict
  pub interval : (i : LevelIntervals) (q : Ratio) → intervals ≡ Some i → level.measure ≡ Quantile q → HasInterval q
      → 0 < samples_of (batches_of_side i.side) → IsLevelVerdict i.side level c.check.counts q i.tier c.check.verdict
  pub tier : c.tier ≡ tier_for intervals level.measure

-- the level of a mean is compared with samples whose sum is at least `low` and at most `high`
pub record IsOfMean (level : Level) (sum : SampleSum) (decimals : ℕ) (c : LevelCheck) : Type 0 where
  pub total : c.check.counts.total ≡ sum.total
  pub sure : decimals ≤ 18 → (c.check.counts.sure ≡ 1) ↔ IsMeanWithin (bound_of level.side level.number) sum.high sum.total decimals
  pub perhaps : decimals ≤ 18 → (c.check.counts.perhaps ≡ 1) ↔ IsMeanWithin (bound_of level.side level.number) sum.low sum.total decimals
  pub by_counts : IsByCounts level None c

-- the sum of the numbers of a tally, of which there are n
abbrev pub sum_of_numbers : BoundTally → ℕ → SampleSum
sum_of_numbers t n = record {
  total = n;
  low = bounds.sum_of t - sum_error t;
  high = min (bounds.sum_of t + sum_error t) (2 ^ 128 - 1);
}

-- a level is compared with numbers
pub record IsOfNumbers (level : Level) (S : List Number) (intervals : Option LevelIntervals) (c : LevelCheck) : Type 0 where
  pub total : c.check.counts.total ≡ length S
  pub sure : c.check.counts.sure ≡ count_within (bound_of level.side level.number) S
  pub perhaps : c.check.counts.perhaps ≡ count_within (bound_of level.side level.number) S
  pub by_counts : IsByCounts level intervals c

-- a level is compared with the numbers of a tally
pub record IsOfTally (tally : BoundTally) (S : List Number) (intervals : Option LevelIntervals) (level : Level) (c : LevelCheck) : Type 0 where
  pub mean : level.measure ≡ Mean → IsOfMean level (sum_of_numbers tally (length S)) tally.tally.decimals c
  pub others : level.measure ≢ Mean → HasBound tally (bound_of level.side level.number) → IsOfNumbers level S intervals c

-- a level is compared with samples of logs, each known by its class
pub record IsOfClasses (level : Level) (decimals : ℕ) (L : List Known) (intervals : Option LevelIntervals) (c : LevelCheck) : Type 0 where
  pub counts : AreByClass c.check.counts (bound_of level.side level.number) decimals L
  pub by_counts : IsByCounts level intervals c

-- a level is compared with the samples of a tag
pub record IsOfTag (tag : TagCounts) (decimals : ℕ) (L : List Known) (intervals : Option LevelIntervals) (level : Level) (c : LevelCheck) : Type 0 where
  pub mean : level.measure ≡ Mean → IsOfMean level (sum_of tag) decimals c
  pub others : level.measure ≢ Mean → IsOfClasses level decimals L intervals c
