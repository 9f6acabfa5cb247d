use Rattle.hdr_tool.proofs.Common.{◌==◌, ap, ◌∙◌, length}
use Rattle.hdr_tool.proofs.LinesParts.{nothing_left}
use Rattle.hdr_tool.proofs.lines.Fields.is_empty.Goals as goal

pub returns : goal.returns
returns c = nothing_left (λ t. t.now) 32 c.self.inside.left c.is_none.result c.is_none.ensures ∙ ap (λ fields. length fields == 0) c.self.view_is
