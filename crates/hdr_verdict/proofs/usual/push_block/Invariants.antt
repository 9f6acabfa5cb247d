use Rattle.hdr_verdict.specs.Blocks.{AppendsBlock}
use Rattle.hdr_logs.proofs.Changed.{Changed}
use Rattle.hdr_verdict.proofs.usual.push_block.Given as goal

abbrev pub invariant-loop-own : goal.invariant-loop-own
invariant-loop-own l = Changed (AppendsBlock l.width l.block) l.initial.all l.all l.own-index
