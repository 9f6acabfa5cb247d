use Rattle.std.specs.List.{AllZip}
use Rattle.hdr_verdict.specs.Blocks.{IsUsualOf, values_of}
use Rattle.hdr_verdict.proofs.usual_values.usual_of_all.Given as goal

abbrev pub invariant-loop-blocks : goal.invariant-loop-blocks
invariant-loop-blocks l = AllZip IsUsualOf (values_of l.yielded) l.usual.items
