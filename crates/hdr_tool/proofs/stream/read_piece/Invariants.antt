use Rattle.hdr_tool.proofs.Common.{◌≡◌, length, Keeps}
use Rattle.hdr_tool.proofs.stream.read_piece.Given as goal

-- an interrupted read consumed nothing
abbrev pub invariant-loop : goal.invariant-loop
invariant-loop g l = (length l.piece ≡ length l.fn.piece) × Keeps (g.R.Read.remaining l.fn.reader) (g.R.Read.remaining l.reader)
