use Rattle.std.proofs.Common.{take}
use Rattle.hdr_compare.specs.Counted.{AreBatchesUpto}
use Rattle.hdr_compare.proofs.counting.batches_upto.Given as goal

abbrev pub invariant-loop-histogram : goal.invariant-loop-histogram
invariant-loop-histogram l = AreBatchesUpto l.fn.value (take l.histogram-index l.fn.batches) l.all.items
