use Rattle.hdr_model.proofs.SamplesFacts.{sum-counted}
use Rattle.hdr_model.proofs.laws.samples_are_counted.Goals as goal

pub returns : goal.returns
returns c = sum-counted
