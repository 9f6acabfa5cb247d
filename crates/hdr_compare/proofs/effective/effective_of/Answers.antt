use Rattle.std.proofs.Common.{rules}
use Rattle.hdr_compare.proofs.Batches.{effective_is}
use Rattle.hdr_compare.proofs.effective.effective_of.Goals as goal

pub returns : goal.returns
returns c s spread = search (rules, effective_is c.args.tier c.args.size c.args.count s c.args.batches)
