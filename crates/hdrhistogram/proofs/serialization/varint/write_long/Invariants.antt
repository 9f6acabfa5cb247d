use Rattle.hdrhistogram.proofs.VarintWriting.{IsWrittenTo}
use Rattle.hdrhistogram.proofs.serialization.varint.write_long.Given as goal

abbrev pub invariant-loop-place : goal.invariant-loop-place
invariant-loop-place l = IsWrittenTo l.buf l.fn.buf l.place l.rest l.n
