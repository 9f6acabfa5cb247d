use Rattle.hdrhistogram.proofs.V2ReadHistogram.{v2-steady}
use Rattle.hdrhistogram.proofs.laws.reading_takes_a_front.Goals as goal

pub returns : goal.returns
returns c = λ greatest text rest x e. v2-steady greatest text rest x e
