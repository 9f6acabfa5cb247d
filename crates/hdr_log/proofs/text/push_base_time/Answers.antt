use Rattle.std.proofs.Common.{◌++◌, sym, ap, ◌∙◌}
use Rattle.hdr_log.proofs.PiecesTexts.{basedat_text, on_ok}
use Rattle.hdr_log.proofs.text.push_base_time.Goals as goal

pub returns : goal.returns
returns c = on_ok c.push_line.result (λ e. e ∙ ap (λ t. c.args.text.now.items ++ t) (sym (basedat_text c.args.time))) c.push_line.ensures
