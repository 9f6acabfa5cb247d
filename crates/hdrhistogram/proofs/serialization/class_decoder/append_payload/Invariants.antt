use Rattle.std.proofs.Common.{◌-◌, ◌^◌, length, map}
use Rattle.hdrhistogram.specs.ClassesRead.{times_of}
use Rattle.hdrhistogram.proofs.ClassesReadFacts.{IsListedTo}
use Rattle.hdrhistogram.proofs.serialization.class_decoder.append_payload.Given as goal

abbrev pub invariant-loop-at : goal.invariant-loop-at
invariant-loop-at l = IsListedTo l.scale l.bins (2 ^ 64 - 1) l.payload (map times_of l.fn.classes.items) (map times_of l.classes.items) l.at l.place

abbrev pub decreases-loop-at : goal.decreases-loop-at
decreases-loop-at l = length l.payload - l.at
