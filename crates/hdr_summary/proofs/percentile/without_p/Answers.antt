use Rattle.std.proofs.Common.{None, lit<}
use Rattle.std.proofs.lemmas.Str.Pattern.{strip_prefix_char}
use Rattle.hdr_summary.proofs.percentile.without_p.Goals as goal

pub returns-in-None-clause-stripped : goal.returns-in-None-clause-stripped
returns-in-None-clause-stripped c = λ rest is.
    absurd (strip_prefix_char 112 c.args.text.now None c.in-None.ensures.cases (lit< tt) rest is)
