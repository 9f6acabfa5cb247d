use Rattle.hdr_log.proofs.GrammarWhole.{pieces_read}
use Rattle.hdr_log.proofs.laws.written_is_read.Goals as goal

pub returns : goal.returns
returns c = pieces_read
