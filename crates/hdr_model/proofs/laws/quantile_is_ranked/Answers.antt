use Rattle.hdr_model.proofs.QuantilesFirst.{quantile-ranked}
use Rattle.hdr_model.proofs.laws.quantile_is_ranked.Goals as goal

pub returns : goal.returns
returns c = λ greatest h q S. quantile-ranked greatest h q S
