use Rattle.std.proofs.Common.{length, ◌-◌, ◌≤◌, take}
use Rattle.std.specs.Io.KnownBytes.{Consumes}
use Rattle.hdrhistogram.proofs.serialization.streams.read_exact.Given as goal

-- the part that is done was read
abbrev pub invariant-loop-done : goal.invariant-loop-done
invariant-loop-done g l =
    let remaining = g.R.Read.remaining in
    record {
      within : l.done ≤ length l.buffer;
      taken : Consumes (remaining l.fn.reader) (remaining l.reader) (take l.done l.buffer);
    }

abbrev pub decreases-loop-done : goal.decreases-loop-done
decreases-loop-done g l = length l.initial.buffer - l.done
