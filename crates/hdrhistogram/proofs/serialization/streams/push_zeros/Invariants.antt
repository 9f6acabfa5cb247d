use Rattle.std.proofs.Common.{◌≡◌, ◌≤◌, ◌+◌, ◌-◌, ◌++◌, max, replicate}
use Rattle.std.specs.Prelude.{vec_len, vec_capacity}
use Rattle.hdrhistogram.proofs.serialization.streams.push_zeros.Given as goal

abbrev pub invariant-loop-buffer : goal.invariant-loop-buffer
invariant-loop-buffer l = record {
  items : l.buffer.items ≡ l.fn.buffer.items ++ replicate (vec_len l.buffer - vec_len l.fn.buffer) 0;
  above : vec_len l.fn.buffer ≤ vec_len l.buffer;
  below : vec_len l.buffer ≤ l.end;
  fits : l.end ≤ vec_capacity l.buffer;
  room : vec_capacity l.buffer ≤ max (vec_capacity l.fn.buffer) (vec_len l.fn.buffer + l.count);
}

abbrev pub decreases-loop-buffer : goal.decreases-loop-buffer
decreases-loop-buffer l = l.end - vec_len l.buffer
