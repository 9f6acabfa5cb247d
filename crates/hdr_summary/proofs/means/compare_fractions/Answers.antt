use Rattle.std.proofs.Common.{◌∙◌}
use Rattle.hdr_summary.proofs.Fractions.{compared}
use Rattle.hdr_summary.proofs.means.compare_fractions.Goals as goal

pub returns : goal.returns
returns c =
    c.then.ensures
    ∙ rw (c.cmp-quotients.ensures, c.cmp-rests.ensures) (compared c.args.num c.args.den c.args.other_num c.args.other_den c.requires.den c.requires.other_den)
