use Rattle.std.proofs.Common.{◌≡◌, ◌++◌, take}
use Rattle.std.specs.List.{flat_map}
use Rattle.hdr_input.specs.Joining.{in_quotes}
use Rattle.hdr_input.proofs.joining.push_quoted.Given as goal

-- the bytes so far are in quotation marks
abbrev pub invariant-loop-byte : goal.invariant-loop-byte
invariant-loop-byte l = l.joined.items ≡ l.initial.joined.items ++ flat_map in_quotes (take l.byte-index l.text)
