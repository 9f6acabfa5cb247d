use Rattle.std.proofs.Common.{◌++◌, sym, ap, ◌∙◌}
use Rattle.hdr_log.proofs.PiecesTexts.{divided_text, on_ok}
use Rattle.hdr_log.proofs.text.push_divisor.Goals as goal

pub returns : goal.returns
returns c = on_ok c.push_line.result (λ e. e ∙ ap (λ t. c.args.text.now.items ++ t) (sym (divided_text c.args.divisor))) c.push_line.ensures
