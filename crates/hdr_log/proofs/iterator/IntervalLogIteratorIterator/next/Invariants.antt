use Rattle.std.proofs.Common.{◌≡◌, ◌+◌, ◌<◌, ◌^◌, length}
use Rattle.hdr_log.specs.Parts.{parts}
use Rattle.hdr_log.specs.Grammar.{readings}
use Rattle.hdr_log.proofs.iterator.IntervalLogIteratorIterator.next.Given as goal

abbrev pub invariant-loop-line : goal.invariant-loop-line
invariant-loop-line l = record {
  same : readings l.self-inside.offset (parts 10 l.self-inside.input.now) ≡ l.fn.self;
  room : l.self-inside.offset + length l.self-inside.input.now < 2 ^ 64;
}

abbrev pub decreases-loop-line : goal.decreases-loop-line
decreases-loop-line l = length l.self-inside.input.now
