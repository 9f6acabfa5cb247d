use Rattle.hdr_tool.proofs.Common.{◌+◌, ap, ◌∙◌, sym, take, ◌∷◌, parts}
use Rattle.hdr_tool.proofs.LinesParts.{first_part, only_part, left_all}
use Rattle.hdr_tool.proofs.lines.split_at_first.Goals as goal

pub returns-in-Some-clause-parts : goal.returns-in-Some-clause-parts
returns-in-Some-clause-parts c =
    let found = rw c.in-Some.is at c.memchr.ensures in
    first_part c.args.byte c.args.text.now c.in-Some.at found ∙ ap (λ t. take c.in-Some.at c.args.text.now ∷ parts c.args.byte t) (sym (left_all (c.in-Some.at + 1) c.args.text.now))

pub returns-in-None-clause-parts : goal.returns-in-None-clause-parts
returns-in-None-clause-parts c = only_part c.args.byte c.args.text.now (rw c.in-None.is at c.memchr.ensures)
