use Rattle.std.proofs.Common.{ℕ, ◌<◌}
use Rattle.hdr_draw.specs.Steps.{step_of}
use Rattle.hdr_draw.proofs.steps.step_above.Given as goal

abbrev pub invariant-loop-index : goal.invariant-loop-index
invariant-loop-index l = (k : ℕ) → k < l.index → step_of k < l.value
