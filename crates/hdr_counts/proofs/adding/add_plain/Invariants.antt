use Rattle.std.proofs.Common.{◌≡◌, take, map}
use Rattle.hdr_counts.specs.Blocks.{capped_sums}
use Rattle.hdr_counts.proofs.adding.add_plain.Given as goal

abbrev pub invariant-loop-i : goal.invariant-loop-i
invariant-loop-i g l = map g.T.Counter.number l.counters ≡ capped_sums g.T.Counter.greatest (map g.T.Counter.number l.initial.counters) (take l.i (map g.F.Counter.number l.source))
