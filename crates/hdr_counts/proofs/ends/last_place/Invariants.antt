use Rattle.std.proofs.Common.{◌-◌, ◌*◌, length, map}
use Rattle.hdr_counts.proofs.BlocksNonzero.{ZerosBehind}
use Rattle.hdr_counts.proofs.ends.last_place.Given as goal

abbrev pub invariant-loop-passed : goal.invariant-loop-passed
invariant-loop-passed g l = ZerosBehind (map g.T.Counter.number l.counters) ((length l.sums - l.passed) * l.section)
