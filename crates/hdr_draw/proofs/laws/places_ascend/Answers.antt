use Rattle.hdr_draw.proofs.Ascending.{along_ascends, quantiles_ascend, values_ascend}
use Rattle.hdr_draw.proofs.laws.places_ascend.Goals as goal

pub returns-clause-numbers : goal.returns-clause-numbers
returns-clause-numbers c = along_ascends

pub returns-clause-values : goal.returns-clause-values
returns-clause-values c = values_ascend

pub returns-clause-quantiles : goal.returns-clause-quantiles
returns-clause-quantiles c = quantiles_ascend
