use Rattle.std.proofs.Common.{◌≡◌, ◌-◌, length}
use Rattle.hdrhistogram.proofs.PayloadReadFilling.{IsFilledTo}
use Rattle.hdrhistogram.proofs.serialization.payload_decoder.decode_counts.Given as goal

abbrev pub invariant-loop-at : goal.invariant-loop-at
invariant-loop-at g l = record {
  filled : IsFilledTo (length l.fn.builder.counts) g.T.Counter.greatest l.payload l.builder.counts l.at l.place;
  rest : l.builder ≡ record l.fn.builder { counts = l.builder.counts };
}

abbrev pub decreases-loop-at : goal.decreases-loop-at
decreases-loop-at g l = length l.payload - l.at
