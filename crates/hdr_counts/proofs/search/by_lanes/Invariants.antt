use Rattle.std.proofs.Common.{◌≡◌, ◌+◌, ◌-◌, ◌<◌, ◌≤◌, length, map}
use Rattle.hdr_counts.specs.Blocks.{sum_below}
use Rattle.hdr_counts.proofs.search.by_lanes.Given as goal

abbrev pub invariant-loop-from : goal.invariant-loop-from
invariant-loop-from g l =
    (l.rest + sum_below (map g.T.Counter.number l.counters) l.from ≡ l.initial.rest) × (0 < l.rest) × (l.from ≤ length l.counters)

abbrev pub decreases-loop-from : goal.decreases-loop-from
decreases-loop-from g l = length l.counters - l.from
