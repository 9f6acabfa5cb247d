use Rattle.hdr_verdict.specs.Blocks.{Pushes}
use Rattle.hdr_logs.proofs.Changed.{Changed}
use Rattle.hdr_verdict.proofs.usual_values.push_cell.Given as goal

abbrev pub invariant-loop-blocks : goal.invariant-loop-blocks
invariant-loop-blocks l = Changed (Pushes l.cell) l.initial.all l.all l.blocks-index
