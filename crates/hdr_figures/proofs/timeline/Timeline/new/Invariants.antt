use Rattle.std.proofs.Common.{◌≡◌, take}
use Rattle.hdr_figures.specs.Intervals.{first_start, last_end}
use Rattle.hdr_figures.proofs.timeline.Timeline.new.Given as goal

abbrev pub invariant-loop-interval : goal.invariant-loop-interval
invariant-loop-interval l = record {
  first : l.first ≡ first_start (take l.interval-index l.intervals);
  last : l.last ≡ last_end (take l.interval-index l.intervals);
}
