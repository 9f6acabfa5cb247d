use Rattle.hdr_log.proofs.PartsNumbers.{Reads}
use Rattle.hdr_log.proofs.parts.number.Given as goal

-- the value of the digits so far
abbrev pub invariant-loop-byte : goal.invariant-loop-byte
invariant-loop-byte l = Reads l.text l.byte-index l.value
