use Rattle.hdr_tool.proofs.Common.{◌<◌, length, Consumes}
use Rattle.hdr_tool.proofs.stream.read_pieces.Given as goal

-- what has come
abbrev pub invariant-loop : goal.invariant-loop
invariant-loop g l = record {
  room : 0 < length l.piece;
  taken : Consumes (g.R.Read.remaining l.fn.reader) (g.R.Read.remaining l.reader) l.input.items;
}
