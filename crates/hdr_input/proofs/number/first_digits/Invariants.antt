use Rattle.std.proofs.Common.{◌+◌, ◌<◌, ◌^◌}
use Rattle.hdr_input.proofs.Digits.{Reads}
use Rattle.hdr_input.proofs.number.first_digits.Given as goal

-- the value of the digits so far, which are few
abbrev pub invariant-loop-at : goal.invariant-loop-at
invariant-loop-at l = record {
  reads : Reads l.start l.text l.at l.value;
  small : l.value < 10 ^ (l.before + l.at);
}
