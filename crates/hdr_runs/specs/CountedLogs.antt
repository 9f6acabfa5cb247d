-- Logs whose intervals are counted at levels.
use Rattle.std.specs.Prelude.{◌≡◌, ◌==◌, ℕ, ◌^◌, ◌<◌, ◌≤◌, if◌then◌else◌, List, [], ◌∷◌, ◌++◌, length, map, Option, IfSome}
use Rattle.std.specs.List.{All, AllZip}
use Rattle.hdr_model.specs.Plain.{Plain, resolution}
use Rattle.hdr_model.specs.Samples.{StandsFor}
use Rattle.hdr_logs.specs.Intervals.{LogInterval, LogHolds}
use Rattle.hdr_logs.specs.Sums.{Summing, AddsAt}
use Rattle.hdr_summary.specs.Classes.{Known, known_by}
use Rattle.hdr_runs.specs.LogCounts.{HasCountedAt, InBatchesAt, FitsBatches, asked_of, levels_of, tags_of}
use Rattle.hdr_runs.specs.declared.log_counts.LogCounts.{LogCounts}

-- a histogram that was taken, with the index of its tag
pub record Taken : Type 0 where
  pub index : ℕ
  pub histogram : Plain

-- the histograms of intervals are added to the sums of their tags and taken, one after the other, each with the index of its sum
abbrev pub AreTaken : Summing → List LogInterval → Summing → List Taken → Type 0
AreTaken old [] new [] = new ≡ old
AreTaken old [] new (t ∷ taken) = ⊥
AreTaken old (i ∷ all) new [] = ⊥
AreTaken old (i ∷ all) new (t ∷ taken) = (mid : Summing) × AddsAt old i mid t.histogram t.index × AreTaken mid all new taken

-- histograms stand for lists of samples
abbrev pub StandForEach : List Taken → List (List ℕ) → Type 0
StandForEach taken SS = AllZip (λ t S. StandsFor t.histogram S) taken SS

-- the samples of the tag of an index: those of its histograms
abbrev pub samples_at : ℕ → List Taken → List (List ℕ) → List Known
samples_at k [] SS = []
samples_at k (t ∷ taken) [] = []
samples_at k (t ∷ taken) (S ∷ SS) = (if k == t.index then known_by 1 (resolution t.histogram) S else []) ++ samples_at k taken SS

abbrev pub values_at : ℕ → List Taken → List (List ℕ) → List ℕ
values_at k taken SS = map (λ x. x.value) (samples_at k taken SS)

-- each tag has counted the samples of its histograms, after others; the values of all have these decimals
abbrev pub CountsEach : LogCounts → ℕ → List Taken → LogCounts → Type 0
CountsEach old decimals taken new =
    (k : ℕ) (L : List Known) (SS : List (List ℕ)) → decimals ≤ 18 → StandForEach taken SS
    → HasCountedAt (levels_of new) decimals (tags_of old) k L → HasCountedAt (levels_of new) decimals (tags_of new) k (L ++ samples_at k taken SS)

-- the batches of each tag have the samples of its histograms, after others, as far as 64 bits hold their number
abbrev pub JoinsEach : LogCounts → List Taken → LogCounts → Type 0
JoinsEach old taken new =
    (k : ℕ) (S : List ℕ) (SS : List (List ℕ)) → All (λ t. FitsBatches (asked_of old).digits t.histogram) taken → StandForEach taken SS
    → length (S ++ values_at k taken SS) < 2 ^ 64
    → InBatchesAt (asked_of old) (tags_of old) k S → InBatchesAt (asked_of old) (tags_of new) k (S ++ values_at k taken SS)

-- the chosen intervals of a log are added to the sums of their tags, and each is counted in the tag of its sum; values have these decimals
pub record CountsLog (text : Option (List ℕ)) (decimals : ℕ) (old new : Summing) (before after : LogCounts) : Type 0 where
  pub all : List LogInterval
  pub taken : List Taken
  pub holds : IfSome text (λ bytes. LogHolds old.filter bytes all)
  pub are_taken : AreTaken old all new taken
  pub counted : CountsEach before decimals taken after
  pub joined : JoinsEach before taken after
