use Rattle.hdr_tool.proofs.Common.{◌∙◌, ap, sym, arith, refl, Some, Apply, Record, Clamp, Correct}
use Rattle.hdr_tool.specs.Commands.{command_of_name}
use Rattle.hdr_tool.proofs.LinesParts.{left_all}
use Rattle.hdr_tool.proofs.CommandsLines.{value_line, front, record_asked, correct_asked}
use Rattle.hdr_tool.proofs.command.value_line.Goals as goal

pub returns-in-114 : goal.returns-in-114
unfolding command_of_name
returns-in-114 c =
    let named = front c.args.text.now _ 114 c.in-99-to-115.len_at_least c.in-114.is (omega arith) (left_all 2 c.args.text.now) in
    value_line c.args.text.now _ c.in_ok-value.after.now 114 c.in_ok-value.value c.in_ok-value.second (Record c.in_ok-value.value c.unwrap_or.result) refl refl named c.in_ok-value.ensures
    (λ fields a. record_asked Record fields c.in_ok-value.value c.in_ok-value.second a ∙ ap (λ n. Some (Apply (Record c.in_ok-value.value n))) (sym c.unwrap_or.ensures))

pub returns-in-115 : goal.returns-in-115
unfolding command_of_name
returns-in-115 c =
    let named = front c.args.text.now _ 115 c.in-99-to-115.len_at_least c.in-115.is (omega arith) (left_all 2 c.args.text.now) in
    value_line c.args.text.now _ c.in_ok-value.after.now 115 c.in_ok-value.value c.in_ok-value.second (Clamp c.in_ok-value.value c.unwrap_or-in-115.result) refl refl named c.in_ok-value.ensures
    (λ fields a. record_asked Clamp fields c.in_ok-value.value c.in_ok-value.second a ∙ ap (λ n. Some (Apply (Clamp c.in_ok-value.value n))) (sym c.unwrap_or-in-115.ensures))

pub returns-in_ok-second-in-99 : goal.returns-in_ok-second-in-99
unfolding command_of_name
returns-in_ok-second-in-99 c =
    let named = front c.args.text.now _ 99 c.in-99-to-115.len_at_least c.in-99.is (omega arith) (left_all 2 c.args.text.now) in
    value_line c.args.text.now _ c.in_ok-value.after.now 99 c.in_ok-value.value (Some c.in_ok-second-in-99.field-0) (Correct c.in_ok-value.value 1 c.in_ok-second-in-99.field-0) refl refl named (rw c.in_ok-second-in-99.was at c.in_ok-value.ensures)
    (λ fields a. correct_asked fields c.in_ok-value.value c.in_ok-second-in-99.field-0 a)
