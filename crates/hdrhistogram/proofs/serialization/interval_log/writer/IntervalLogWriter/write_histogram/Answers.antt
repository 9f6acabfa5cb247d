use Rattle.std.proofs.KnownBytes.{Keeps-refl}
use Rattle.hdrhistogram.proofs.LogRefused.{unwritten}
use Rattle.hdrhistogram.proofs.serialization.interval_log.writer.IntervalLogWriter.write_histogram.Goals as goal

pub returns-in-Err-clause-leaves : goal.returns-in-Err-clause-leaves
returns-in-Err-clause-leaves g c = unwritten _ _ _ c.in-Err.e c.in-Err.ensures

pub returns-then-is_err-clause-leaves : goal.returns-then-is_err-clause-leaves
returns-then-is_err-clause-leaves g c = Keeps-refl _
