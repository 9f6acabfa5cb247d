use Rattle.std.proofs.Common.{◌≡◌, ◌≤◌, take, map}
use Rattle.hdrhistogram.specs.Payload.{nonempty}
use Rattle.hdrhistogram.proofs.serialization.payload.nonempty.Given as goal

abbrev pub invariant-loop-counter : goal.invariant-loop-counter
invariant-loop-counter g l = record {
  full : l.full ≡ nonempty (take l.counter-index (map g.T.Counter.number l.counters));
  few : l.full ≤ l.counter-index;
}
