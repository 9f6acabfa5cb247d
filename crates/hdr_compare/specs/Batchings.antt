-- Samples that are recorded one after the other, in batches.
use Rattle.std.specs.Prelude.{ℕ, List, [], ◌∷◌, ◌++◌}
use Rattle.hdr_base.specs.Classes.{resolution_of}
use Rattle.hdr_model.specs.Correction.{each_times, missing}
use Rattle.hdr_model.specs.Plain.{Plain}
use Rattle.hdr_model.specs.Recording.{samples_of}
use Rattle.hdr_compare.specs.Parts.{AreParts, HaveClasses}
use Rattle.hdr_compare.specs.declared.batching.Batching.{Batching}

-- the batches so far, the last one included
abbrev pub batches_of : Batching → List Plain
batches_of b = b.full.items ++ b.last ∷ []

-- the significant digits of their classes
abbrev pub digits_of : Batching → ℕ
digits_of b = b.sigfig

-- a number, and the samples that are missing before it
abbrev pub recorded : (value interval : ℕ) → List ℕ
recorded value interval = samples_of (each_times 1 (value ∷ missing value interval))

-- what was recorded: the batches stand for it, one part after the other
pub record HasRecorded (S : List ℕ) (b : Batching) : Type 0 where
  pub parts : AreParts S (batches_of b)
  pub classes : HaveClasses (resolution_of 1 b.sigfig) (batches_of b)
