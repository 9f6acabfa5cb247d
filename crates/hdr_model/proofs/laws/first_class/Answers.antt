use Rattle.hdr_model.proofs.QuantilesFirst.{first-class}
use Rattle.hdr_model.proofs.laws.first_class.Goals as goal

pub returns : goal.returns
returns c = λ counts r pos. first-class counts r pos
