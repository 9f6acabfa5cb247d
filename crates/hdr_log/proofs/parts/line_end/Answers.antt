use Rattle.hdr_log.proofs.PartsFirst.{first_byte}
use Rattle.hdr_log.proofs.parts.line_end.Goals as goal

pub returns : goal.returns
returns c = first_byte 10 c.args.text.now c.memchr.result c.memchr.ensures
