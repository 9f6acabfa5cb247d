use Rattle.hdr_verdict.proofs.RunOrder.{runs-in-order}
use Rattle.hdr_verdict.proofs.RunSums.{runs-reach-bar}
use Rattle.hdr_verdict.proofs.laws.runs_reach_the_bar.Goals as goal

pub returns-clause-in_order : goal.returns-clause-in_order
returns-clause-in_order c = runs-in-order

pub returns-clause-sums : goal.returns-clause-sums
returns-clause-sums c = runs-reach-bar
