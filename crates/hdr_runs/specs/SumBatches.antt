-- The intervals of logs in batches, for each of their sums.
use Rattle.std.specs.Prelude.{◌≡◌, ℕ, ◌^◌, ◌<◌, min, List, [], ◌++◌, length, slice_set, slice_index_or}
use Rattle.std.specs.List.{All}
use Rattle.hdr_base.specs.Classes.{IsFiner, resolution_of}
use Rattle.hdr_compare.specs.Batchings.{HasRecorded, digits_of}
use Rattle.hdr_compare.specs.declared.batching.Batching.{Batching}
use Rattle.hdr_model.specs.Merging.{lowest_values}
use Rattle.hdr_model.specs.Plain.{Plain, resolution}
use Rattle.hdr_model.specs.Samples.{StandsFor}
use Rattle.hdr_runs.specs.declared.log_batches.LogBatches.{LogBatches}

-- batches without samples, whose classes have these digits
pub record IsWithoutSamples (digits : ℕ) (b : Batching) : Type 0 where
  pub none : HasRecorded [] b
  pub digits_are : digits_of b ≡ digits

-- batches of sums, and others without samples, so that there are some of the sum of this index
pub record ReachesSum (digits index : ℕ) (old new : List Batching) : Type 0 where
  pub others : List Batching
  pub sums : new ≡ old ++ others
  pub none : All (IsWithoutSamples digits) others
  pub within : index < length new

-- the samples of a histogram are added to batches
pub record AddsTo (h : Plain) (old new : Batching) : Type 0 where
  pub digits_stay : digits_of new ≡ digits_of old
  pub samples : (S T : List ℕ) → StandsFor h T → IsFiner (resolution h) (resolution_of 1 (digits_of old))
      → length (S ++ T) < 2 ^ 64 → HasRecorded S old → HasRecorded (S ++ T) new
  pub lowest : (S T : List ℕ) → StandsFor h T → length (S ++ T) < 2 ^ 64 → HasRecorded S old
      → (length (lowest_values h) ≡ length T) × HasRecorded (S ++ lowest_values h) new

-- the batches of each sum
abbrev pub sums_of : LogBatches → List Batching
sums_of b = b.sums.items

-- the significant digits of all batches
abbrev pub digits_of_sums : LogBatches → ℕ
digits_of_sums b = min b.sigfig 5

-- a histogram is added to the batches of the sum of its index alone: those of others stay
pub record AddsToSum (old : LogBatches) (index : ℕ) (h : Plain) (new : LogBatches) : Type 0 where
  pub digits_stay : digits_of_sums new ≡ digits_of_sums old
  pub reached : List Batching
  pub reaches : ReachesSum (digits_of_sums old) index (sums_of old) reached
  pub batching : Batching
  pub adds : AddsTo h (slice_index_or reached index batching) batching
  pub sums : sums_of new ≡ slice_set reached index batching
