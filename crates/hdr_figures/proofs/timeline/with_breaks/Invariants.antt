use Rattle.std.proofs.Common.{◌≡◌, take}
use Rattle.hdr_figures.specs.Breaks.{with_breaks}
use Rattle.hdr_figures.proofs.timeline.with_breaks.Given as goal

abbrev pub invariant-loop-gap : goal.invariant-loop-gap
invariant-loop-gap l = l.time ≡ with_breaks (take l.gap-index l.breaks) l.initial.time
