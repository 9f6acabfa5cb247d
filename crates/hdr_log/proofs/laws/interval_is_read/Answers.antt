use Rattle.hdr_log.proofs.GrammarLines.{interval_read}
use Rattle.hdr_log.proofs.laws.interval_is_read.Goals as goal

pub returns : goal.returns
returns c = λ tag start time max field p. interval_read tag start time max field p.0 p.1 p.2 p.3 p.4.text p.4.whole
