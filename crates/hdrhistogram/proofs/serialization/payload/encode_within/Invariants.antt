use Rattle.std.proofs.Common.{◌-◌, ◌≤◌, take}
use Rattle.hdrhistogram.proofs.PayloadWriting.{IsEncodedTo}
use Rattle.hdrhistogram.proofs.serialization.payload.encode_within.Given as goal

-- the bins before this one are written
abbrev pub invariant-loop-bin : goal.invariant-loop-bin
invariant-loop-bin g l = record {
  encoded : IsEncodedTo (take l.bins l.h.counts) l.buf l.fn.buf l.bin l.written;
  within : l.bin ≤ l.bins;
}

abbrev pub decreases-loop-bin : goal.decreases-loop-bin
decreases-loop-bin g l = l.bins - l.bin
