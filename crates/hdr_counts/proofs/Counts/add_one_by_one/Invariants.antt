use Rattle.std.proofs.Common.{◌≡◌, take}
use Rattle.hdr_counts.specs.Blocks.{capped_sums}
use Rattle.hdr_counts.proofs.Counts.add_one_by_one.Given as goal

abbrev pub invariant-loop-i : goal.invariant-loop-i
invariant-loop-i g l = l.self ≡ record { block = l.initial.self.block; numbers = capped_sums g.T.Counter.greatest l.initial.self.numbers (take l.i l.source.numbers) }
