use Rattle.std.proofs.Common.{◌≡◌, take, map, replicate}
use Rattle.hdr_counts.proofs.clearing.clear_section.Given as goal

abbrev pub invariant-loop-counter : goal.invariant-loop-counter
invariant-loop-counter g l =
    take l.counter-index (map g.T.Counter.number l.counters) ≡ replicate l.counter-index 0
