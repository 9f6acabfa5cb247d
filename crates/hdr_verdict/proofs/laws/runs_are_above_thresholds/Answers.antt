use Rattle.hdr_verdict.proofs.RunValues.{runs-are-above}
use Rattle.hdr_verdict.proofs.laws.runs_are_above_thresholds.Goals as goal

pub returns : goal.returns
returns c = runs-are-above
