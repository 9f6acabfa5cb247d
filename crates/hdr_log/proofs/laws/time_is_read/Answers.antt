use Rattle.hdr_log.proofs.TextsTimes.{time_of_thousandths}
use Rattle.hdr_log.proofs.laws.time_is_read.Goals as goal

pub returns : goal.returns
returns c = time_of_thousandths
