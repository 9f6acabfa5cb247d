use Rattle.hdrhistogram.proofs.V2SameBytes.{one_counts}
use Rattle.hdrhistogram.proofs.laws.payload_tells_counts.Goals as goal

pub returns : goal.returns
returns c = one_counts
