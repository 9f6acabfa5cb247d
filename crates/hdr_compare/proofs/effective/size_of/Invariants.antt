use Rattle.std.proofs.Common.{◌≡◌, ◌-◌, ◌^◌, min, take}
use Rattle.std.specs.List.{sum_by}
use Rattle.hdr_compare.proofs.effective.size_of.Given as goal

abbrev pub invariant-loop-batch : goal.invariant-loop-batch
invariant-loop-batch l = l.size ≡ min (sum_by (λ b. b.size) (take l.batch-index l.fn.batches)) (2 ^ 64 - 1)
