-- What sums of intervals hold. A field is the Base64 of a histogram's bytes.
use Rattle.std.specs.Prelude.{◌≡◌, ℕ, ◌-◌, ◌^◌, ◌<◌, List, ◌++◌, length, true}
use Rattle.std.specs.List.{All, AllZip, Any}
use Rattle.hdr_base.specs.Classes.{IsFiner, Resolution}
use Rattle.hdr_model.specs.Plain.{Plain, resolution}
use Rattle.hdr_model.specs.Samples.{StandsFor}
use Rattle.hdr_model.specs.Joining.{joined_samples}
use Rattle.hdrhistogram.specs.FieldRead.{IsHeldIn}
use Rattle.hdr_gather.specs.Counts.{finer_of, AreCounts}
use Rattle.hdr_gather.specs.declared.sum.IntervalSum.{IntervalSum}

-- where one histogram stands for some samples and another for others, the sum stands for all of them, if 64 bits can count them
abbrev pub IsJoined : Plain → Plain → Plain → Type 0
IsJoined one other sum =
    (S L : List ℕ) → StandsFor one S → StandsFor other L → length (S ++ L) < 2 ^ 64 → StandsFor sum (S ++ L)

-- the histogram that a field holds, which grows
abbrev pub IsGrowing : List ℕ → Plain → Type 0
IsGrowing field h = (held : Plain) × IsHeldIn (2 ^ 64 - 1) field held × (h ≡ record held { auto_resize = true })

-- where histograms stand for samples, one by one, their sum stands for all of them, if 64 bits can count them
abbrev pub StandsForAll : List Plain → Plain → Type 0
StandsForAll hs sum = (Ls : List (List ℕ)) → AllZip StandsFor hs Ls → length (joined_samples Ls) < 2 ^ 64 → StandsFor sum (joined_samples Ls)

-- the coarsest classes of histograms: those of one of them, in which the classes of all lie
pub record AreCoarsest (hs : List Plain) (g : Resolution) : Type 0 where
  pub nested : All (λ h. IsFiner (resolution h) g) hs
  pub one : Any (λ h. resolution h ≡ g) hs

-- the sum of histograms, by the coarsest of their classes; they are counted, and those that are finer
pub record IsSum (hs : List Plain) (sum : IntervalSum) : Type 0 where
  pub classes : AreCoarsest hs (resolution sum.histogram)
  pub counts : AreCounts sum.counts (length hs) (finer_of (resolution sum.histogram) hs)
  pub samples : StandsForAll hs sum.histogram

-- the fields hold histograms, of which some are finer than their sum; the sum, by the coarsest classes, stands for all samples that they
-- stand for
abbrev pub IsSumOf : List (List ℕ) → Plain → ℕ → Type 0
IsSumOf fields sum finer =
    (hs : List Plain) × AllZip (IsHeldIn (2 ^ 64 - 1)) fields hs × (finer ≡ finer_of (resolution sum) hs)
    × AreCoarsest hs (resolution sum) × StandsForAll hs sum

-- the sum of what fields hold, which is counted
abbrev pub SumsFields : List (List ℕ) → IntervalSum → Type 0
SumsFields fields sum = (finer : ℕ) × IsSumOf fields sum.histogram finer × AreCounts sum.counts (length fields) finer
