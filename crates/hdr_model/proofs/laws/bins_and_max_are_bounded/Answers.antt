use Rattle.hdr_model.proofs.MergingOrder.{max-small}
use Rattle.hdr_model.proofs.PlainBins.{few-bins}
use Rattle.hdr_model.proofs.laws.bins_and_max_are_bounded.Goals as goal

pub returns-clause-bins : goal.returns-clause-bins
returns-clause-bins c = few-bins

pub returns-clause-max : goal.returns-clause-max
returns-clause-max c = max-small
