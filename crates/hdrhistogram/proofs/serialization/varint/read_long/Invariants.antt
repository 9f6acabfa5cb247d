use Rattle.hdrhistogram.proofs.VarintRead.{IsReadTo}
use Rattle.hdrhistogram.proofs.serialization.varint.read_long.Given as goal

abbrev pub invariant-loop-place : goal.invariant-loop-place
invariant-loop-place l = IsReadTo l.bytes l.place l.value l.weight
