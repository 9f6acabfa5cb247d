use Rattle.hdr_model.proofs.QuantilesAscend.{ascending-values}
use Rattle.hdr_model.proofs.laws.ascending_quantiles.Goals as goal

pub returns : goal.returns
returns c = λ h qs. ascending-values h qs
