use Rattle.hdrhistogram.proofs.V2SameBytes.{contents_agree, alike}
use Rattle.hdrhistogram.proofs.laws.bytes_agree.Goals as goal

pub returns-clause-equal : goal.returns-clause-equal
returns-clause-equal c = alike

pub returns-clause-alike : goal.returns-clause-alike
returns-clause-alike c = contents_agree
