use Rattle.hdr_log.proofs.PartsFronts.{strip_is}
use Rattle.hdr_c.proofs.log_start.strip_prefix.Goals as goal

pub returns : goal.returns
returns c = strip_is c.strip_prefix.result c.args.prefix.now c.args.line.now c.strip_prefix.ensures.cases
