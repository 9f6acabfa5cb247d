use Rattle.std.proofs.Common.{◌≡◌, map, take}
use Rattle.hdr_verdict.proofs.tags.sorted.Given as goal

abbrev pub invariant-loop-interval : goal.invariant-loop-interval
invariant-loop-interval l = map (λ e. e.interval.now) l.entries.items ≡ take l.interval-index l.intervals
