use Rattle.std.proofs.Common.{◌++◌, List}
use Rattle.std.specs.List.{AllZip}
use Rattle.hdr_verdict.specs.declared.usual.TailValues.{TailValues}
use Rattle.hdr_verdict.specs.Blocks.{IsUsualOf}
use Rattle.hdr_verdict.proofs.usual_values.push_usual.Given as goal

abbrev pub invariant-loop-own : goal.invariant-loop-own
invariant-loop-own l = (before : List TailValues) → AllZip IsUsualOf before l.initial.usual.items → AllZip IsUsualOf (before ++ l.yielded) l.usual.items
