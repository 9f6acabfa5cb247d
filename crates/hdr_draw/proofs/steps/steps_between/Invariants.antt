use Rattle.hdr_draw.specs.Steps.{AreSteps}
use Rattle.hdr_draw.proofs.steps.steps_between.Given as goal

abbrev pub invariant-loop-index : goal.invariant-loop-index
invariant-loop-index l = AreSteps l.low l.high l.index l.steps.items
