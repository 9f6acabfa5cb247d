use Rattle.std.proofs.Common.{◌≡◌, ◌-◌, ◌^◌, min, take}
use Rattle.hdr_compare.specs.Effective.{spread}
use Rattle.hdr_compare.proofs.effective.spread.Given as goal

abbrev pub invariant-loop-batch : goal.invariant-loop-batch
invariant-loop-batch l = l.spread ≡ min (spread l.fn.size l.fn.count (take l.batch-index l.fn.batches)) (2 ^ 128 - 1)
