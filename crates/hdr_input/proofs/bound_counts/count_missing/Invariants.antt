use Rattle.std.proofs.Common.{◌≡◌, ◌++◌, map, take, drop}
use Rattle.hdr_input.specs.Counted.{with_missing}
use Rattle.hdr_input.proofs.bound_counts.count_missing.Given as goal

-- those before the index are changed
abbrev pub invariant-loop-at : goal.invariant-loop-at
invariant-loop-at l = l.counts ≡ map (with_missing l.value l.interval) (take l.at l.initial.counts) ++ drop l.at l.initial.counts
