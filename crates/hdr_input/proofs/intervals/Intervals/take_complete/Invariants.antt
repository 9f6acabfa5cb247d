use Rattle.std.proofs.Common.{◌≡◌, false}
use Rattle.std.specs.Vec.Iter.{into_iter_items}
use Rattle.hdr_input.specs.Intervals.{held, latest_of, has_later, KeepsTimes}
use Rattle.hdr_input.proofs.TimeSlices.{Parting}
use Rattle.hdr_input.proofs.intervals.Intervals.take_complete.Given as goal

abbrev pub invariant-loop-slice : goal.invariant-loop-slice
invariant-loop-slice l = record {
  times : KeepsTimes l.fn.self l.self;
  later : has_later l.self ≡ false;
  parts : Parting (latest_of l.fn.self) (held l.fn.self) l.complete.items (held l.self) (into_iter_items l.slice-iterator);
}
