use Rattle.std.proofs.Common.{◌-◌}
use Rattle.hdrhistogram.proofs.VarintRead.{IsTaken}
use Rattle.hdrhistogram.proofs.serialization.varint.varint_read.Given as goal

abbrev pub invariant-bytes : goal.invariant-bytes
invariant-bytes g l = let remaining = g.R.Read.remaining in IsTaken (remaining l.fn.reader) (remaining l.reader) l.place l.value l.weight

abbrev pub decreases-bytes : goal.decreases-bytes
decreases-bytes g l = 9 - l.place
