use Rattle.std.proofs.Common.{◌≡◌, length}
use Rattle.std.specs.Io.KnownBytes.{Keeps}
use Rattle.hdr_input.specs.BlankReaders.{squeezed_bytes}
use Rattle.hdr_input.proofs.blanks.BlankReaderRead.read.Given as goal

-- nothing was passed on
abbrev pub invariant-loop : goal.invariant-loop
invariant-loop g l = (length l.buf ≡ length l.fn.buf)
    × Keeps (squeezed_bytes g.R.Read.remaining l.fn.self) (squeezed_bytes g.R.Read.remaining l.self)
