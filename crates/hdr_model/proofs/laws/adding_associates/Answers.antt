use Rattle.hdr_model.proofs.MergingOrder.{associates}
use Rattle.hdr_model.proofs.MergingStands.{resolution-merged}
use Rattle.hdr_model.proofs.laws.adding_associates.Goals as goal

pub returns : goal.returns
returns c = λ greatest h s one p q hs t r st. associates greatest h s t one p q r hs st (resolution-merged greatest greatest h s q) (resolution-merged greatest greatest s t r)
