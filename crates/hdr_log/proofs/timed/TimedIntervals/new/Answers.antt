use Rattle.std.proofs.Common.{arith}
use Rattle.hdr_log.proofs.TimedSteps.{timed_few}
use Rattle.hdr_log.proofs.timed.TimedIntervals.new.Goals as goal

pub returns-clause-at_most : goal.returns-clause-at_most
returns-clause-at_most c = omega (arith, timed_few c.new-2.result c.new.result, c.new-2.ensures.at_most)
