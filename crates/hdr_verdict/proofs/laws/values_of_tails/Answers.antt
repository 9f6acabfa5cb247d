use Rattle.hdr_verdict.proofs.TailFacts.{tail-above, tail-least}
use Rattle.hdr_verdict.proofs.laws.values_of_tails.Goals as goal

pub returns-clause-above : goal.returns-clause-above
returns-clause-above c = tail-above

pub returns-clause-least : goal.returns-clause-least
returns-clause-least c = tail-least
