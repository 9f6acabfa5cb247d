use Rattle.std.proofs.Common.{◌≡◌, length}
use Rattle.hdr_convert.proofs.CounterLaws.{AreSet}
use Rattle.hdr_convert.proofs.old.histogram_of.Given as goal

abbrev pub invariant-loop-bin : goal.invariant-loop-bin
invariant-loop-bin l =
    (l.builder ≡ record l.initial.builder { counts = l.builder.counts })
    × (length l.builder.counts ≡ length l.initial.builder.counts)
    × AreSet l.bin l.fn.old.width l.fn.old.counters.now l.builder.counts
