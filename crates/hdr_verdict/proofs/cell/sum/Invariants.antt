use Rattle.std.proofs.Common.{◌≡◌, ◌^◌, ◌-◌, take, min, sum}
use Rattle.hdr_verdict.proofs.cell.sum.Given as goal

abbrev pub invariant-loop-count : goal.invariant-loop-count
invariant-loop-count l = l.sum ≡ min (sum (take l.count-index l.counts)) (2 ^ 64 - 1)
