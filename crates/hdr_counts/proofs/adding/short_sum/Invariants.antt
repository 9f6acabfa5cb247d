use Rattle.std.proofs.Common.{◌≡◌, map}
use Rattle.hdr_counts.specs.Blocks.{sum_below}
use Rattle.hdr_counts.proofs.adding.short_sum.Given as goal

abbrev pub invariant-loop-counter : goal.invariant-loop-counter
invariant-loop-counter g l = l.total ≡ sum_below (map g.T.Counter.number l.counters) l.counter-index
