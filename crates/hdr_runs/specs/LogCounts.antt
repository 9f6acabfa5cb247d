-- The samples of logs, counted at levels for each tag.
use Rattle.std.specs.Prelude.{⊤, ◌≡◌, ◌≢◌, ◌==◌, ℕ, ◌+◌, ◌^◌, ◌<◌, ◌≤◌, min, max, Option, Some, None, Bool, true, false, if◌then◌else◌, List, [], ◌++◌, length, map, slice_get, MatchOption}
use Rattle.std.specs.List.{All, AllZip, list_any}
use Rattle.std.specs.Option.{option_or}
use Rattle.hdr_base.specs.Classes.{IsFiner, resolution_of}
use Rattle.hdr_compare.specs.Batchings.{HasRecorded, digits_of}
use Rattle.hdr_compare.specs.declared.batching.Batching.{Batching}
use Rattle.hdr_compare.specs.declared.tiers.Tier.{Tier}
use Rattle.hdr_input.specs.declared.bound.Bound.{Bound}
use Rattle.hdr_input.specs.declared.unit.Unit.{Unit}
use Rattle.hdr_model.specs.Plain.{Plain, resolution}
use Rattle.hdr_model.specs.Samples.{StandsFor}
use Rattle.hdr_summary.specs.Classes.{Known, known_by, FitUnits, HasClasses}
use Rattle.hdr_summary.specs.Levels.{bound_of}
use Rattle.hdr_summary.specs.LevelTexts.{IsLevelText}
use Rattle.hdr_summary.specs.Means.{IsSumOf}
use Rattle.hdr_summary.specs.declared.classes.ClassCounts.{ClassCounts}
use Rattle.hdr_summary.specs.declared.means.SampleSum.{SampleSum}
use Rattle.hdr_summary.specs.declared.levels.Level.{Level}
use Rattle.hdr_summary.specs.declared.levels.Measure.{Measure}
use Rattle.hdr_summary.specs.declared.levels.Measure.TheVariants.{Mean}
use Rattle.hdr_runs.specs.declared.log_counts.LogCounts.{LogCounts}
use Rattle.hdr_runs.specs.declared.log_counts.TagCounts.{TagCounts}

-- whether a level is of a mean
abbrev pub is_mean : Measure → Bool
is_mean Mean = true
is_mean measure = false

abbrev pub is_of_mean : Level → Bool
is_of_mean level = is_mean level.measure

-- whether one of levels is of a mean
abbrev pub has_mean : List Level → Bool
has_mean levels = list_any is_of_mean levels

-- what is asked: the levels as they are written, the unit of those without one, the tier of confidence intervals if there are any, and
-- the digits of batches
pub record Asked : Type 0 where
  pub texts : List (List ℕ)
  pub unit : Option Unit
  pub tier : Option Tier
  pub digits : ℕ

-- what is asked of logs; the levels, once the unit of the values is known; and the tags so far
abbrev pub asked_of : LogCounts → Asked
asked_of c = record { texts = map (λ text. text.now) c.written.texts.now; unit = c.written.asked; tier = c.written.tier; digits = min c.sigfig 5 }

abbrev pub levels_of : LogCounts → List Level
levels_of c = c.levels.items

abbrev pub tags_of : LogCounts → List TagCounts
tags_of c = c.tags.items

-- the counts of a tag at each level, the sum of its samples, and its batches, if there are any
abbrev pub counts_of : TagCounts → List ClassCounts
counts_of tag = tag.counts.items

abbrev pub sum_of : TagCounts → SampleSum
sum_of tag = tag.sum

abbrev pub batches_of_tag : TagCounts → Option Batching
batches_of_tag tag = tag.batching

-- a level is that of its text: one without a unit is in the unit that is asked for, or else in that of the values
abbrev pub IsLevelOf : (asked unit : Option Unit) → List ℕ → Level → Type 0
IsLevelOf asked unit text level =
    length text < 2 ^ 62 → IsLevelText text (option_or asked unit) (option_or unit asked) level.measure level.side level.number

-- levels are those of the texts that are asked for, one after the other, if the values are in a unit
abbrev pub AreLevelsOf : LogCounts → Option Unit → List Level → Type 0
AreLevelsOf c unit levels = AllZip (λ text level. IsLevelOf c.written.asked unit text.now level) c.written.texts.now levels

-- levels stay once they are known, and are then those of their texts, for values of some unit
pub record ParsesLevels (old new : LogCounts) : Type 0 where
  pub asked : asked_of new ≡ asked_of old
  pub known : levels_of old ≢ [] → levels_of new ≡ levels_of old
  pub parsed : levels_of old ≡ [] → map (λ level. level.text.now) (levels_of new) ≡ (asked_of old).texts
  pub amounts : levels_of old ≡ [] → (unit : Option Unit) × AreLevelsOf old unit (levels_of new)

-- a histogram stands for samples, and its unit is this many units, in which they fit 64 bits
pub record IsOfUnits (factor : ℕ) (h : Plain) (S : List ℕ) : Type 0 where
  pub some : 0 < factor
  pub stands : StandsFor h S
  pub fit : factor ≢ 1 → FitUnits factor (resolution h) S

-- the samples of a histogram are counted at a bound, after others
abbrev pub AddsClasses : ℕ → Plain → ClassCounts → ClassCounts → Type 0
AddsClasses factor h old new =
    (b : Bound) (decimals : ℕ) (L : List Known) (S : List ℕ) → 0 < factor → HasClasses old b decimals L → StandsFor h S
    → (factor ≢ 1 → FitUnits factor (resolution h) S) → HasClasses new b decimals (L ++ known_by factor (resolution h) S)

-- these samples were counted at the bounds of levels, one after the other
abbrev pub AreCountsAt : List Level → ℕ → List Known → List ClassCounts → Type 0
AreCountsAt levels decimals L all = AllZip (λ level counts. HasClasses counts (bound_of level.side level.number) decimals L) levels all

-- a tag has counted these samples: at the bound of each level, and in its sum if one of the levels is of a mean
pub record HasCounted (levels : List Level) (decimals : ℕ) (L : List Known) (tag : TagCounts) : Type 0 where
  pub at_levels : AreCountsAt levels decimals L (counts_of tag)
  pub in_sum : has_mean levels ≡ true → IsSumOf (sum_of tag) L

-- the samples of a histogram are counted in a tag, after others
abbrev pub CountsIn : (summed : Bool) → (factor : ℕ) → Plain → TagCounts → TagCounts → Type 0
CountsIn summed factor h old new =
    (levels : List Level) (decimals : ℕ) (L : List Known) (S : List ℕ) → has_mean levels ≡ summed → HasCounted levels decimals L old
    → IsOfUnits factor h S → HasCounted levels decimals (L ++ known_by factor (resolution h) S) new

-- the tag of an index has counted these samples, or it is still to come, and there are none
abbrev pub HasCountedAt : List Level → ℕ → List TagCounts → ℕ → List Known → Type 0
HasCountedAt levels decimals tags index L = MatchOption (slice_get tags index) (L ≡ []) (HasCounted levels decimals L)

-- samples are in the batches of a tag, one part after the other, if there is a tier; without a tier it has none
abbrev pub InBatches : Option Tier → ℕ → List ℕ → Option Batching → Type 0
InBatches None digits S None = ⊤
InBatches (Some tier) digits S (Some b) = HasRecorded S b × (digits_of b ≡ digits)
InBatches tier digits S batches = ⊥

-- the batches of the tag of an index have these samples, or it is still to come, and there are none
abbrev pub InBatchesAt : Asked → List TagCounts → ℕ → List ℕ → Type 0
InBatchesAt asked tags index S = MatchOption (slice_get tags index) (S ≡ []) (λ tag. InBatches asked.tier asked.digits S (batches_of_tag tag))

-- tags without samples are added at the end
pub record AddsTags (decimals : ℕ) (old new : LogCounts) : Type 0 where
  pub asked : asked_of new ≡ asked_of old
  pub levels : levels_of new ≡ levels_of old
  pub added : List TagCounts
  pub tags : tags_of new ≡ tags_of old ++ added
  pub none : decimals ≤ 18 → All (HasCounted (levels_of old) decimals []) added
  pub batches : All (λ tag. InBatches (asked_of old).tier (asked_of old).digits [] (batches_of_tag tag)) added

-- the classes of a histogram are in those of batches of these digits
abbrev pub FitsBatches : ℕ → Plain → Type 0
FitsBatches digits h = IsFiner (resolution h) (resolution_of 1 digits)

-- the samples of a histogram are added to batches, as far as 64 bits hold their number
abbrev pub JoinsBatches : Plain → Option Batching → Option Batching → Type 0
JoinsBatches h old new =
    (tier : Option Tier) (digits : ℕ) (S T : List ℕ) → StandsFor h T → FitsBatches digits h → length (S ++ T) < 2 ^ 64
    → InBatches tier digits S old → InBatches tier digits (S ++ T) new

-- the samples of the tag at k, after those of a histogram were added to the tag of an index
abbrev pub with_samples : (k index factor : ℕ) → Plain → List ℕ → List Known → List Known
with_samples k index factor h S L = if k == index then L ++ known_by factor (resolution h) S else L

-- the samples in the batches of the tag at k, after those of a histogram were added to the tag of an index
abbrev pub with_values : (k index : ℕ) → List ℕ → List ℕ → List ℕ
with_values k index T S = if k == index then S ++ T else S

-- the samples of a histogram are counted in the tag of an index, and in no other
abbrev pub CountsAt : List Level → (factor : ℕ) → Plain → ℕ → List TagCounts → List TagCounts → Type 0
CountsAt levels factor h index old new =
    (k decimals : ℕ) (L : List Known) (S : List ℕ) → IsOfUnits factor h S → HasCountedAt levels decimals old k L
    → HasCountedAt levels decimals new k (with_samples k index factor h S L)

-- the samples of a histogram are added to the batches of the tag of an index, and to no others
abbrev pub JoinsAt : Asked → Plain → ℕ → List TagCounts → List TagCounts → Type 0
JoinsAt asked h index old new =
    (k : ℕ) (S T : List ℕ) → StandsFor h T → FitsBatches asked.digits h → length (with_values k index T S) < 2 ^ 64
    → InBatchesAt asked old k S → InBatchesAt asked new k (with_values k index T S)

-- a histogram is taken, whose values are in units of `decimals`, and were in units of which one is `factor` of these before they were
-- converted: the samples are counted in the tag of an index, and in no other, by the classes that they had before; a tag that is new
-- has these decimals; and the converted ones are added to the batches of that tag
pub record TakesConverted (old : LogCounts) (index factor : ℕ) (before h : Plain) (decimals : ℕ) (new : LogCounts) : Type 0 where
  pub levels : ParsesLevels old new
  pub tags : length (tags_of new) ≡ max (length (tags_of old)) (index + 1)
  pub samples : (k d : ℕ) (L : List Known) (S : List ℕ) → d ≤ 18 → (length (tags_of old) ≤ k → d ≡ decimals) → IsOfUnits factor before S
      → HasCountedAt (levels_of new) d (tags_of old) k L → HasCountedAt (levels_of new) d (tags_of new) k (with_samples k index factor before S L)
  pub batches : JoinsAt (asked_of old) h index (tags_of old) (tags_of new)

-- a histogram is taken as it is
abbrev pub TakesHistogram : LogCounts → (index : ℕ) → Plain → (decimals : ℕ) → LogCounts → Type 0
TakesHistogram old index h decimals new = TakesConverted old index 1 h h decimals new
