use Rattle.hdr_tool.proofs.Common.{◌<◌, ◌^◌}
use Rattle.hdr_tool.proofs.CommandsLines.{AreDigits}
use Rattle.hdr_tool.proofs.command.digits.Given as goal

-- the digits so far are the value, and few digits a small one
abbrev pub invariant-loop-at : goal.invariant-loop-at
invariant-loop-at l = record {
  reads : AreDigits l.text l.at l.value;
  small : l.value < 10 ^ l.at;
}
