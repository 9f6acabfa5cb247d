use Rattle.hdrhistogram.proofs.V2ReadBack.{v2_again, read_back, equal_back}
use Rattle.hdrhistogram.proofs.V2Bytes.{v2_bytes}
use Rattle.hdrhistogram.proofs.laws.bytes_read_back.Goals as goal

pub returns-clause-bytes : goal.returns-clause-bytes
returns-clause-bytes c = v2_bytes

pub returns-clause-contents : goal.returns-clause-contents
returns-clause-contents c = v2_again

pub returns-clause-histogram : goal.returns-clause-histogram
returns-clause-histogram c = read_back

pub returns-clause-equal : goal.returns-clause-equal
returns-clause-equal c = equal_back
