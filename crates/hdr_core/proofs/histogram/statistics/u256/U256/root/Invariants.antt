use Rattle.std.proofs.Common.{◌*◌, ◌-◌, ◌<◌, ◌≤◌}
use Rattle.hdr_core.specs.Integers.{number_of}
use Rattle.hdr_core.proofs.histogram.statistics.u256.U256.root.Given as goal

abbrev pub invariant-loop-low : goal.invariant-loop-low
invariant-loop-low l = (l.low < l.high) × (l.low * l.low ≤ number_of l.fn.self) × (number_of l.fn.self < l.high * l.high)

abbrev pub decreases-loop-low : goal.decreases-loop-low
decreases-loop-low l = l.high - l.low
