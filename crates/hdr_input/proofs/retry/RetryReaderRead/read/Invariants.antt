use Rattle.std.specs.Io.KnownBytes.{Keeps}
use Rattle.hdr_input.proofs.retry.RetryReaderRead.read.Given as goal

-- an interrupted read consumed nothing
abbrev pub invariant-loop : goal.invariant-loop
invariant-loop g l = Keeps (g.R.Read.remaining l.fn.self.reader) (g.R.Read.remaining l.self.reader)
