use Rattle.std.proofs.Common.{◌-◌, ◌≤◌, length}
use Rattle.std.specs.Io.KnownBytes.{Consumes}
use Rattle.hdrhistogram.proofs.serialization.deserializer.read_payload.Given as goal

abbrev pub invariant-loop-buffer : goal.invariant-loop-buffer
invariant-loop-buffer g l =
    let remaining = g.R.Read.remaining in
    record {
      taken : Consumes (remaining l.fn.reader) (remaining l.reader) l.buffer.items;
      few : length l.buffer.items ≤ l.len;
    }

abbrev pub decreases-loop-buffer : goal.decreases-loop-buffer
decreases-loop-buffer g l = l.len - length l.buffer.items
