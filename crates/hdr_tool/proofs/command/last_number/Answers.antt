use Rattle.hdr_tool.proofs.CommandsLines.{one}
use Rattle.hdr_tool.proofs.command.last_number.Goals as goal

pub returns : goal.returns
returns c = one c.args.text.now c.in_ok-value.rest.now c.in_ok-value.value (rw c.if-byte-ne10.false at c.in_ok-value.ensures)
