use Rattle.hdr_model.proofs.MergingOrder.{commutes}
use Rattle.hdr_model.proofs.laws.adding_commutes.Goals as goal

pub returns : goal.returns
returns c = λ greatest h s. commutes greatest h s
