-- Whether the samples of a run suffice to say that a percentile keeps a level.
use Rattle.std.specs.Prelude.{◌≡◌, ℕ, ◌<◌, ◌≤◌, Bool, true, false, List, Option}
use Rattle.hdr_base.specs.Fractions.{Ratio}
use Rattle.hdr_model.specs.Plain.{Plain}
use Rattle.hdr_compare.specs.Positions.{IsPositionOf}
use Rattle.hdr_compare.specs.declared.position.Position.{Position}
use Rattle.hdr_compare.specs.declared.position.Position.TheVariants.{Within, Beyond, Between, Open}
use Rattle.hdr_compare.specs.declared.position.WithinBound.{WithinBound}
use Rattle.hdr_compare.specs.declared.tiers.Tier.{Tier}
use Rattle.hdr_input.specs.Bounds.{IsMost}
use Rattle.hdr_summary.specs.Levels.{bound_of, is_upper}
use Rattle.hdr_summary.specs.declared.levels.Level.{Level}
use Rattle.hdr_summary.specs.declared.levels.Measure.{Measure}
use Rattle.hdr_summary.specs.declared.levels.Measure.TheVariants.{Quantile}
use Rattle.hdr_summary.specs.declared.verdicts.LevelCounts.{LevelCounts}
use Rattle.hdr_summary.specs.declared.verdicts.Verdict.{Verdict}
use Rattle.hdr_summary.specs.declared.verdicts.Verdict.TheVariants.{Kept, Broken, Undecided, Few}
use Rattle.hdr_runs.specs.Points.{batches_of_side, decimals_of}
use Rattle.hdr_runs.specs.declared.side.Side.{Side}

-- a quantile has an interval: it is above 0 and below 1, and its percentile has at most 4 decimals
pub record HasInterval (q : Ratio) : Type 0 where
  pub above : 0 < q.num
  pub below : q.num < q.den
  pub few : q.den ≤ 1000000

-- a figure is such a quantile
abbrev pub IsOfInterval : Measure → Type 0
IsOfInterval (Quantile q) = HasInterval q
IsOfInterval measure = ⊥

-- what the position of a percentile within the bound of a level says of it: a level that bounds it from above is kept within
abbrev pub verdict_at : (upper : Bool) → Position → Verdict
verdict_at true Within = Kept
verdict_at false Within = Broken
verdict_at true Beyond = Broken
verdict_at false Beyond = Kept
verdict_at upper Between = Undecided
verdict_at upper Open = Few

-- on which side of a bound a percentile of samples in batches is
unfoldable pub IsPositionAmong : List Plain → Ratio → Tier → WithinBound → Position → Type 0
IsPositionAmong hs q tier within position = IsPositionOf hs q tier within position

-- the verdict on a level is by the position of the percentile, of whose samples this many are within the level's bound
pub record IsLevelVerdict (side : Side) (level : Level) (counts : LevelCounts) (q : Ratio) (tier : Tier) (verdict : Verdict) : Type 0 where
  pub most : Option ℕ
  pub is_most : decimals_of side ≤ 18 → IsMost (bound_of level.side level.number) (decimals_of side) most
  pub position : Position
  pub is_position : IsPositionAmong (batches_of_side side) q tier (record { most = most; sure = counts.sure; perhaps = counts.perhaps }) position
  pub is_verdict : verdict ≡ verdict_at (is_upper level.side) position
