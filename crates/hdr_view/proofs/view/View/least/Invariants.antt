use Rattle.std.proofs.Common.{◌≡◌, take}
use Rattle.hdr_view.proofs.LevelFacts.{least_of}
use Rattle.hdr_view.proofs.view.View.least.Given as goal

abbrev pub invariant-loop-level : goal.invariant-loop-level
invariant-loop-level l = l.least ≡ least_of l.self.log.all.min (take l.level-index l.level-items)
