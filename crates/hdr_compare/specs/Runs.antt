-- The samples of a run.
use Rattle.std.specs.Prelude.{List}
use Rattle.hdr_model.specs.Plain.{Plain}
use Rattle.hdr_compare.specs.declared.run.Run.{Run}

-- its batches, one after the other
abbrev pub batches_of : Run → List Plain
batches_of run = run.batches.items

-- all samples, in the classes of the interval's ends
abbrev pub all_of : Run → Plain
all_of run = run.all
