-- Numbers that are counted within bounds, and recorded in batches.
use Rattle.std.specs.Prelude.{⊤, ◌≡◌, ℕ, min, Bool, true, false, Option, Some, None, List, [], ◌∷◌}
use Rattle.hdr_input.specs.BoundLaws.{AreMissing, CountsOne, CountsSome, CountsTimes, counts_nothing, counts_after}
use Rattle.hdr_input.specs.Bounds.{Counts}
use Rattle.hdr_input.specs.Recorded.{IsEmptyTally, Takes, TakesWide}
use Rattle.hdr_input.specs.declared.tally.Recording.{Recording}
use Rattle.hdr_input.specs.declared.wide.Wide.{Wide}
use Rattle.hdr_input.specs.declared.number.Number.{Number}
use Rattle.hdr_runs.specs.BatchLaws.{takes_nothing, takes_after}
use Rattle.hdr_runs.specs.Batched.{HasBatches, HasSamples, digits_of_tally, RecordsNumber, RecordsTimes, RecordsWide, TakesSame}
use Rattle.hdr_runs.specs.declared.batch_tally.BatchTally.{BatchTally}
use Rattle.hdr_runs.specs.declared.level_tally.LevelTally.{LevelTally}

-- batches take samples, if there are batches, and stay if there are none
abbrev pub TakesInBatches : Option BatchTally → Option BatchTally → Type 0
TakesInBatches None None = ⊤
TakesInBatches (Some old) (Some new) = TakesSame old new
TakesInBatches old new = ⊥

-- batches take something, if there are batches
abbrev pub InBatches : (BatchTally → BatchTally → Type 0) → Option BatchTally → Option BatchTally → Type 0
InBatches Takes None None = ⊤
InBatches Takes (Some old) (Some new) = Takes old new
InBatches Takes old new = ⊥

-- there are batches if they are asked for, with no samples in them, which record as the counts do
abbrev pub HasEmptyBatches : Recording → Bool → Option BatchTally → Type 0
HasEmptyBatches r true (Some t) = HasBatches t × HasSamples [] t × IsEmptyTally r t.tally × (digits_of_tally t ≡ min r.sigfig 5)
HasEmptyBatches r false None = ⊤
HasEmptyBatches r is_asked batches = ⊥

-- a number is counted, with the missing samples before it, and recorded in batches
pub record RecordsInBoth (number : Number) (old new : LevelTally) : Type 0 where
  pub missing : List Number
  pub are_missing : AreMissing old.counted number missing
  pub tally : Takes old.counted.tally new.counted.tally number
  pub counted : Counts old.counted (number ∷ missing) new.counted
  pub batches : InBatches (λ a b. RecordsNumber a b number) old.batches new.batches

-- a number that may be rounded is counted and recorded in batches
pub record RecordsWideInBoth (number : Wide) (old new : LevelTally) : Type 0 where
  pub tally : TakesWide old.counted.tally new.counted.tally number
  pub counted : CountsOne number old.counted new.counted
  pub batches : InBatches (λ a b. RecordsWide a b number) old.batches new.batches

-- a number is counted and recorded some times
pub record RecordsTimesInBoth (number : Wide) (times : ℕ) (old new : LevelTally) : Type 0 where
  pub counted : CountsTimes number times old.counted new.counted
  pub batches : InBatches (λ a b. RecordsTimes a b number times) old.batches new.batches

-- some numbers are counted, and batches take what all of them take
pub record TakesInBoth (old new : LevelTally) : Type 0 where
  pub counted : CountsSome old.counted new.counted
  pub batches : TakesInBatches old.batches new.batches

pub batches_nothing : (t : Option BatchTally) → TakesInBatches t t
batches_nothing None = tt
batches_nothing (Some t) = takes_nothing t

pub batches_after : (a b c : Option BatchTally) → TakesInBatches a b → TakesInBatches b c → TakesInBatches a c
batches_after None None None first more = tt
batches_after (Some a) (Some b) (Some c) first more = takes_after a b c first more
batches_after None None (Some c) first more = absurd more
batches_after None (Some b) c first more = absurd first
batches_after (Some a) None c first more = absurd first
batches_after (Some a) (Some b) None first more = absurd more

-- nothing is taken where nothing changes
pub takes_in_none : (t : LevelTally) → TakesInBoth t t
takes_in_none t = record { counted = counts_nothing t.counted; batches = batches_nothing t.batches }

-- what is taken after other samples
pub takes_in_more : (a b c : LevelTally) → TakesInBoth a b → TakesInBoth b c → TakesInBoth a c
takes_in_more a b c first more = record {
  counted = counts_after a.counted b.counted c.counted first.counted more.counted;
  batches = batches_after a.batches b.batches c.batches first.batches more.batches;
}
