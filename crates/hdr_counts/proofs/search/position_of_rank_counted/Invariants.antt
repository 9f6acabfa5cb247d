use Rattle.std.proofs.Common.{◌≡◌, ◌+◌, ◌<◌, map}
use Rattle.hdr_counts.specs.Blocks.{sum_below}
use Rattle.hdr_counts.proofs.search.position_of_rank_counted.Given as goal

abbrev pub invariant-loop-i : goal.invariant-loop-i
invariant-loop-i g l =
    (l.rest + sum_below (map g.T.Counter.number l.counters) l.i ≡ l.initial.rest) × (0 < l.rest) × (l.ticks ≡ l.initial.ticks + l.i)
