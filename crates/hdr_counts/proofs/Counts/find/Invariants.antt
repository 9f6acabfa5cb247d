use Rattle.std.proofs.Common.{◌≡◌, ◌+◌, ◌*◌, ◌<◌}
use Rattle.hdr_counts.specs.Blocks.{sum_below}
use Rattle.hdr_counts.proofs.Counts.find.Given as goal

abbrev pub invariant-loop-k : goal.invariant-loop-k
invariant-loop-k g l =
    (l.rest + sum_below l.self.numbers (l.k * l.self.block) ≡ l.rank) × (0 < l.rest) × (l.ticks ≡ l.initial.ticks + l.k)
