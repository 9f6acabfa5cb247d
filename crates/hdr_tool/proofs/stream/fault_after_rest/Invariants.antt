use Rattle.hdr_tool.proofs.Common.{◌≡◌, length}
use Rattle.hdr_tool.proofs.stream.fault_after_rest.Given as goal

abbrev pub invariant-loop : goal.invariant-loop
invariant-loop g l = length l.piece ≡ length l.fn.piece
