use Rattle.std.proofs.Common.{◌≡◌, ◌+◌, ◌≤◌, length}
use Rattle.hdr_base.specs.Classes.{width_of}
use Rattle.hdr_model.specs.Plain.{resolution, reach}
use Rattle.hdr_model.specs.Recording.{after_records}
use Rattle.hdr_model.specs.Correction.{each_times, classes_held, down_to}
use Rattle.hdr_core.proofs.histogram.Histogram.add_each.Given as goal

abbrev pub invariant-loop-value : goal.invariant-loop-value
invariant-loop-value g l = record {
  state : after_records g.T.Counter.greatest l.self (each_times l.count (down_to l.value l.interval)) ≡ after_records g.T.Counter.greatest l.initial.self (each_times l.count (down_to l.initial.value l.interval));
  ticks : l.ticks + classes_held (resolution l.initial.self) (length l.initial.self.counts) (down_to l.value l.interval)
      ≡ l.initial.ticks + classes_held (resolution l.initial.self) (length l.initial.self.counts) (down_to l.initial.value l.interval);
  same_classes : resolution l.self ≡ resolution l.initial.self;
  same_bins : length l.self.counts ≡ length l.initial.self.counts;
  same_reach : reach l.self ≡ reach l.initial.self;
  within : l.value ≤ reach l.self;
  alone : width_of (resolution l.initial.self) l.value ≤ l.interval;
}

abbrev pub decreases-loop-value : goal.decreases-loop-value
decreases-loop-value g l = l.value
