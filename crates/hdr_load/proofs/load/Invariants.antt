use Rattle.std.proofs.Common.{◌≡◌}
use Rattle.hdrhistogram.specs.LogWriters.{divisor_of}
use Rattle.hdr_load.proofs.load.Given as goal

abbrev pub invariant-loop-line : goal.invariant-loop-line
invariant-loop-line l = divisor_of l.log ≡ 1000
