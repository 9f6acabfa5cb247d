use Rattle.hdr_model.proofs.StatisticsShares.{quantile-below}
use Rattle.hdr_model.proofs.laws.quantile_and_share.Goals as goal

pub returns : goal.returns
returns c = λ greatest h S p s some q v. quantile-below greatest h q v S p s some
