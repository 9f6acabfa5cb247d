-- Sums of intervals: of a point of a tag, of a tag, and of a log.
use Rattle.std.specs.Prelude.{◌≡◌, true, List, map, flat_map}
use Rattle.std.specs.List.{AllZip}
use Rattle.std.specs.List.Sorted.{IsPermutation}
use Rattle.hdr_model.specs.Plain.{Plain, empty_plain}
use Rattle.hdr_model.specs.Recording.{after_reset}
use Rattle.hdr_logs.specs.declared.stored.StoredInterval.{StoredInterval}
use Rattle.hdr_figures.specs.Figures.{AreFiguresOf, value_at}
use Rattle.hdr_figures.specs.Intervals.{AreHistogramsOf, span_of, sum_of}
use Rattle.hdr_figures.specs.declared.figures.LogFigures.{LogFigures}
use Rattle.hdr_figures.specs.declared.figures.TagFigures.{TagFigures}
use Rattle.hdr_figures.specs.declared.level.PageLevel.{PageLevel}

-- the elements of parts, one after the other
abbrev pub joined : {A : Type 0} → List (List A) → List A
joined parts = flat_map (λ part. part) parts

-- a histogram has the unit and the digits of sums
abbrev pub HasOwnClasses : Plain → Type 0
HasOwnClasses h = (h.low ≡ 1) × (h.sigfig ≡ 3)

-- the sum of a point of a tag: the histograms of its intervals are added to one of the classes of sums, after a reset
abbrev pub IsPointSum : List StoredInterval → Plain → Type 0
IsPointSum intervals sum = (all : List Plain) × (old : Plain) × HasOwnClasses old × AreHistogramsOf intervals all × (sum ≡ sum_of (after_reset old) all)

-- the sum of a tag: those of its points are added, which are parts of its intervals
pub record IsTagSum (intervals : List StoredInterval) (sum : Plain) : Type 0 where
  pub parts : List (List StoredInterval)
  pub points : List Plain
  pub whole : joined parts ≡ intervals
  pub each : AllZip IsPointSum parts points
  pub is : sum ≡ sum_of (empty_plain 1 2 3 true) points

-- the figures of a tag, and its values at levels, are those of its sum
pub record AreOfSum (levels : List PageLevel) (sum : Plain) (tag : TagFigures) : Type 0 where
  pub figures : AreFiguresOf sum tag.figures
  pub at_levels : map (λ at. at.value) tag.at_levels.items ≡ map (λ l. value_at sum l.num l.den) levels

-- each interval is in the part of one tag, whose figures are those of its sum; the sum of all is that of the tags
pub record AreSumsOf (intervals : List StoredInterval) (levels : List PageLevel) (log : LogFigures) : Type 0 where
  pub parts : List (List StoredInterval)
  pub sums : List Plain
  pub tags : List TagFigures
  pub whole : IsPermutation intervals (joined parts)
  pub each : AllZip IsTagSum parts sums
  pub figures : AllZip (AreOfSum levels) sums tags
  pub lengths : AllZip (λ part tag. tag.length ≡ span_of part) parts tags
  pub listed : IsPermutation tags log.tags.items
  pub all : log.sum.histogram ≡ sum_of (empty_plain 1 2 3 true) sums
