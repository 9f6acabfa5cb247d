use Rattle.std.proofs.Common.{◌<◌, ◌≤◌, ◌++◌, ℕ, List, vec_len, take}
use Rattle.hdr_input.specs.Lines.{IsComplete}
use Rattle.std.specs.Io.KnownBytes.{Consumes}
use Rattle.hdr_input.proofs.pieces.read_lines.Given as goal

-- the sink has taken all that was read but what is held of a line
abbrev pub invariant-loop : goal.invariant-loop
invariant-loop g l = record {
  within : l.held ≤ vec_len l.buffer;
  some : 0 < vec_len l.buffer;
  read : (done : List ℕ) × Consumes (g.R.Read.remaining l.initial.reader.reader) (g.R.Read.remaining l.reader.reader) (done ++ take l.held l.buffer.items)
      × IsComplete done × g.S.LineSink.takes 1 done l.line l.initial.sink l.sink;
}
