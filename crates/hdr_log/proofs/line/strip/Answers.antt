use Rattle.hdr_log.proofs.PartsFronts.{strip_is}
use Rattle.hdr_log.proofs.line.strip.Goals as goal

pub returns : goal.returns
returns c = strip_is c.strip_prefix.result c.args.front.now c.args.text.now c.strip_prefix.ensures.cases
