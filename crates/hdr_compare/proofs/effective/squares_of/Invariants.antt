use Rattle.std.proofs.Common.{◌≡◌, ◌-◌, ◌^◌, min, take}
use Rattle.std.specs.List.{sum_by}
use Rattle.hdr_compare.specs.Effective.{square}
use Rattle.hdr_compare.proofs.effective.squares_of.Given as goal

abbrev pub invariant-loop-batch : goal.invariant-loop-batch
invariant-loop-batch l = l.squares ≡ min (sum_by (λ b. square b.size) (take l.batch-index l.fn.batches)) (2 ^ 128 - 1)
