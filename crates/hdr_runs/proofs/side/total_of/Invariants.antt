use Rattle.std.proofs.Common.{◌≡◌, ◌-◌, ◌^◌, min, take}
use Rattle.std.specs.List.{sum_by}
use Rattle.hdr_runs.proofs.side.total_of.Given as goal

abbrev pub invariant-loop-batch : goal.invariant-loop-batch
invariant-loop-batch l = l.total ≡ min (sum_by (λ h. h.total) (take l.batch-index l.fn.batches)) (2 ^ 64 - 1)
