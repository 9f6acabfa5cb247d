use Rattle.std.proofs.Common.{◌≡◌, ◌+◌, ◌≤◌, length}
use Rattle.hdr_model.specs.Plain.{resolution, reach}
use Rattle.hdr_model.specs.Recording.{after_records}
use Rattle.hdr_model.specs.Correction.{each_times, classes_held, down_to}
use Rattle.hdr_core.proofs.histogram.Histogram.add_by_class.Given as goal

abbrev pub invariant-loop-next : goal.invariant-loop-next
invariant-loop-next g l = record {
  state : after_records g.T.Counter.greatest l.self (each_times l.count (down_to l.next l.interval)) ≡ after_records g.T.Counter.greatest l.initial.self (each_times l.count (down_to l.initial.next l.interval));
  ticks : l.ticks + classes_held (resolution l.initial.self) (length l.initial.self.counts) (down_to l.next l.interval)
      ≡ l.initial.ticks + classes_held (resolution l.initial.self) (length l.initial.self.counts) (down_to l.initial.next l.interval);
  same_classes : resolution l.self ≡ resolution l.initial.self;
  same_bins : length l.self.counts ≡ length l.initial.self.counts;
  same_reach : reach l.self ≡ reach l.initial.self;
  within : l.next ≤ reach l.self;
}

abbrev pub decreases-loop-next : goal.decreases-loop-next
decreases-loop-next g l = l.next
