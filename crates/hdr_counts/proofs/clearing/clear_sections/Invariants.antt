use Rattle.std.proofs.Common.{◌≡◌, ◌*◌, length, take, map, replicate}
use Rattle.hdr_counts.specs.Blocks.{AreSums}
use Rattle.hdr_counts.proofs.clearing.clear_sections.Given as goal

-- the blocks before this one are 0
abbrev pub invariant-loop-k : goal.invariant-loop-k
invariant-loop-k g l = record {
  zeros : take (l.k * l.section) (map g.T.Counter.number l.counters) ≡ replicate (l.k * l.section) 0;
  sums : AreSums l.section (map g.T.Counter.number l.counters) l.sums;
  same : length l.sums ≡ length l.initial.sums;
}
