use Rattle.std.proofs.Common.{◌≡◌, ◌-◌, ◌<◌, length, get_or, take}
use Rattle.hdr_model.specs.Plain.{resolution, reach}
use Rattle.hdr_model.specs.Recording.{after_records}
use Rattle.hdr_model.specs.Merging.{classes_from}
use Rattle.hdr_core.proofs.histogram.Histogram.record_classes.Given as goal

abbrev pub invariant-loop-bin : goal.invariant-loop-bin
invariant-loop-bin g l = record {
  filled : l.bin < length l.source.counts → 0 < get_or l.source.counts l.bin 0;
  made : l.self ≡ after_records g.T.Counter.greatest l.initial.self (classes_from (resolution l.source) 0 (take l.bin l.source.counts));
  same_reach : reach l.self ≡ reach l.initial.self;
}

abbrev pub decreases-loop-bin : goal.decreases-loop-bin
decreases-loop-bin g l = length l.source.counts - l.bin
