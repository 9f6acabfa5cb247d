use Rattle.std.proofs.Common.{◌+◌, ◌*◌}
use Rattle.hdr_draw.specs.Steps.{AreTicks}
use Rattle.hdr_draw.proofs.times.TimeSteps.ticks.Given as goal

abbrev pub invariant-loop-index : goal.invariant-loop-index
invariant-loop-index l = AreTicks (l.self.step * 1000) l.self.every l.from l.to ((l.first + l.index) * (l.self.step * 1000)) l.ticks.items
