use Rattle.std.proofs.Common.{◌++◌}
use Rattle.hdr_compare.specs.Parts.{KeepsParts, waiting}
use Rattle.hdr_compare.proofs.merging.in_pairs.Given as goal

abbrev pub invariant-loop-batch : goal.invariant-loop-batch
invariant-loop-batch l = KeepsParts l.fn.batches.items (l.pairs.items ++ waiting l.earlier ++ l.batch-iterator.rest.items)
