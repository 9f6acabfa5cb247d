use Rattle.hdr_verdict.specs.CountsAboveFor.{PushesCell}
use Rattle.hdr_logs.proofs.Changed.{Changed}
use Rattle.hdr_verdict.proofs.counting.push_cell.Given as goal

abbrev pub invariant-loop-above : goal.invariant-loop-above
invariant-loop-above l = Changed (PushesCell l.width l.cell) l.initial.all l.all l.above-index
