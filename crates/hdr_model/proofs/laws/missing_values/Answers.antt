use Rattle.std.proofs.Common.{◌/◌, ◌-◌}
use Rattle.std.proofs.lemmas.List.FromFn.{length-map-range_with_len}
use Rattle.hdr_model.specs.Correction.{missing}
use Rattle.hdr_model.proofs.CorrectionFacts.{missing-are, are-missing}
use Rattle.hdr_model.proofs.laws.missing_values.Goals as goal

pub returns-clause-which : goal.returns-clause-which
returns-clause-which c = λ v i x. (missing-are v i x, are-missing v i x)

pub returns-clause-count : goal.returns-clause-count
unfolding missing
returns-clause-count c = λ v i. length-map-range_with_len _ 1 (v / i - 1)
