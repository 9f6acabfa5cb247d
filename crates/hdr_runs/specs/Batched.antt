-- Numbers that are recorded, and in batches.
use Rattle.std.specs.Prelude.{◌≡◌, ℕ, ◌-◌, ◌^◌, ◌<◌, ◌≤◌, List, [], ◌∷◌, ◌++◌, length, Bool, false, true}
use Rattle.hdr_input.specs.Recorded.{Takes, TakesWide, TakesWideTimes}
use Rattle.hdr_input.specs.declared.number.Number.{Number}
use Rattle.hdr_model.specs.Plain.{Plain}
use Rattle.hdr_model.specs.Samples.{StandsFor}
use Rattle.hdr_compare.specs.Batchings.{HasRecorded, batches_of, digits_of}
use Rattle.hdr_runs.specs.declared.batch_tally.BatchTally.{BatchTally}
use Rattle.hdr_runs.specs.declared.steps.Steps.{Steps}
use Rattle.hdr_input.specs.declared.wide.Wide.{Wide}
use Rattle.hdr_runs.specs.declared.order.Order.{Order}
use Rattle.hdr_runs.specs.declared.order.Order.TheVariants.{OfTime, Sorted, Counted, FewIntervals}
use Rattle.hdr_runs.specs.declared.side.Samples.{Samples}

-- the tally stands for samples, and so do the batches, one part after the other
pub record HasSamples (S : List ℕ) (t : BatchTally) : Type 0 where
  pub all : StandsFor t.tally.histogram S
  pub batches : HasRecorded S t.batching

-- the digits of the classes of batches
abbrev pub digits_of_tally : BatchTally → ℕ
digits_of_tally t = digits_of t.batching

-- how many samples the tally counts
abbrev pub total_of : BatchTally → ℕ
total_of t = t.tally.histogram.total

-- some samples more are as many as the tally counts more, unless its total is the greatest
abbrev pub AreAll : List ℕ → BatchTally → Type 0
AreAll S t = total_of t < 2 ^ 64 - 1 → length S ≡ total_of t

-- both take the same samples, as long as these can be counted, if the batches have all numbers
pub record TakesSame (old new : BatchTally) : Type 0 where
  pub has : new.has_batches ≡ true → old.has_batches ≡ true
  pub grows : new.has_batches ≡ true → total_of old ≤ total_of new
  pub samples : new.has_batches ≡ true → (S : List ℕ) → HasSamples S old
      → (T : List ℕ) × AreAll (S ++ T) new × (length (S ++ T) < 2 ^ 64 → HasSamples (S ++ T) new)

-- a number is recorded, whatever batches do
unfoldable pub RecordsNumber : BatchTally → BatchTally → Number → Type 0
RecordsNumber old new number = Takes old.tally new.tally number

-- the number that a wide one stands for is recorded, in units of the tally
unfoldable pub RecordsWide : BatchTally → BatchTally → Wide → Type 0
RecordsWide old new wide = TakesWide old.tally new.tally wide

-- it is recorded some times
unfoldable pub RecordsTimes : BatchTally → BatchTally → Wide → ℕ → Type 0
RecordsTimes old new wide times = 0 < times → TakesWideTimes old.tally new.tally wide times

-- whether the numbers so far ascend and whether they descend
abbrev pub steps_of : BatchTally → Steps
steps_of t = t.steps

-- the batches have all numbers
abbrev pub HasBatches : BatchTally → Type 0
HasBatches t = t.has_batches ≡ true

-- the numbers are sorted if they only ascend or only descend, and their order is not known without batches
abbrev pub IsOrderOf : BatchTally → Order → Type 0
IsOrderOf t OfTime = HasBatches t × (t.steps.ascends ≡ t.steps.descends)
IsOrderOf t Sorted = HasBatches t × (t.steps.ascends ≡ t.steps.descends → ⊥)
IsOrderOf t Counted = t.has_batches ≡ false
IsOrderOf t FewIntervals = ⊥

-- samples in batches if their order is that of time, and otherwise in one
abbrev pub ordered : BatchTally → Order → List Plain
ordered t OfTime = batches_of t.batching
ordered t order = t.tally.histogram ∷ []

-- the samples of a tally, in their order
pub record AreSamplesOf (t : BatchTally) (samples : Samples) : Type 0 where
  pub order : IsOrderOf t samples.order
  pub batches : samples.batches.items ≡ ordered t samples.order
  pub least : samples.min ≡ t.tally.min
  pub greatest : samples.max ≡ t.tally.max
  pub decimals : samples.decimals ≡ t.tally.decimals
