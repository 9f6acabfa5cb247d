use Rattle.std.proofs.Common.{◌≡◌, take}
use Rattle.hdr_figures.specs.Breaks.{without_breaks}
use Rattle.hdr_figures.proofs.timeline.without_breaks.Given as goal

abbrev pub invariant-loop-gap : goal.invariant-loop-gap
invariant-loop-gap l = l.left ≡ without_breaks l.time (take l.gap-index l.breaks) l.length
