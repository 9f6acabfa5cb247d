-- The samples of runs.
use Rattle.std.specs.Prelude.{◌≡◌, ◌⊎◌, ℕ, ◌^◌, ◌<◌, ◌≤◌, min, max, [], ◌∷◌, ◌++◌, length}
use Rattle.hdr_model.specs.Plain.{Plain}
use Rattle.hdr_compare.specs.Intervals.{samples_of}
use Rattle.hdr_compare.specs.declared.run.BatchError.{BatchError}
use Rattle.hdr_compare.specs.declared.run.BatchError.TheVariants.{OutOfMemory}
use Rattle.hdr_runs.specs.declared.side.Samples.{Samples}

-- one run more: its samples are the last batch
pub record AddsRun (h : Plain) (least greatest : ℕ) (old new : Samples) : Type 0 where
  pub batches : new.batches.items ≡ old.batches.items ++ h ∷ []
  pub least_is : new.min ≡ min old.min least
  pub greatest_is : new.max ≡ max old.max greatest
  pub decimals : new.decimals ≡ old.decimals
  pub order : new.order ≡ old.order

-- an allocation fails, there are 2^40 samples or more, or more than 2^20 batches
abbrev pub IsSideError : Samples → BatchError → Type 0
IsSideError samples e =
    (e ≡ OutOfMemory) ⊎ (2 ^ 40 ≤ samples_of samples.batches.items) ⊎ (2 ^ 20 < length samples.batches.items)
