use Rattle.std.proofs.Common.{◌≢◌, All}
use Rattle.std.specs.Io.KnownBytes.{Consumes}
use Rattle.hdr_logs.proofs.lines.read_line.Given as goal

-- the line so far has no LF
abbrev pub invariant-loop : goal.invariant-loop
invariant-loop g l = record {
  open_ended : All (λ x. x ≢ 10) l.line.items;
  taken : Consumes (g.R.Read.remaining l.initial.reader) (g.R.Read.remaining l.reader) l.line.items;
}
