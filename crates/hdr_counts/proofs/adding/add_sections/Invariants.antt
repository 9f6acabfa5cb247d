use Rattle.std.proofs.Common.{◌≡◌, ◌*◌, length, take, map}
use Rattle.hdr_counts.specs.Blocks.{capped_sums, AreSums}
use Rattle.hdr_counts.proofs.adding.add_sections.Given as goal

abbrev pub invariant-loop-k : goal.invariant-loop-k
invariant-loop-k g l = record {
  numbers : map g.T.Counter.number l.counters ≡ capped_sums g.T.Counter.greatest (map g.T.Counter.number l.initial.counters) (take (l.k * l.section) (map g.F.Counter.number l.source));
  sums : AreSums l.section (map g.T.Counter.number l.counters) l.sums;
  same : length l.sums ≡ length l.initial.sums;
}
