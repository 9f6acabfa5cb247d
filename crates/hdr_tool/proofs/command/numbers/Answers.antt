use Rattle.hdr_tool.proofs.CommandsLines.{one, two}
use Rattle.hdr_tool.proofs.command.numbers.Goals as goal

pub returns-then-byte-eq10 : goal.returns-then-byte-eq10
returns-then-byte-eq10 c = one c.args.text.now c.in_ok-first.rest.now c.in_ok-first.first (rw c.if-byte-eq10.true at c.in_ok-first.ensures)

pub returns : goal.returns
returns c = two c.args.text.now c.in_ok-first.rest.now _ c.in_ok-first.first c.in_ok-second.second (rw c.if-byte-ne32.false at c.in_ok-first.ensures) c.in_ok-second.ensures
