use Rattle.std.proofs.Common.{◌≡◌, map, take}
use Rattle.hdr_figures.proofs.sums.keys_of.Given as goal

abbrev pub invariant-loop-interval : goal.invariant-loop-interval
invariant-loop-interval l = map (λ k. k.interval.now) l.keys.items ≡ take l.interval-index l.intervals
