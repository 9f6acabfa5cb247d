use Rattle.std.proofs.Common.{◌≡◌, max, take}
use Rattle.hdr_view.proofs.LevelFacts.{greatest_of}
use Rattle.hdr_view.proofs.view.View.greatest.Given as goal

abbrev pub invariant-loop-level : goal.invariant-loop-level
invariant-loop-level l = l.greatest ≡ greatest_of (max l.self.log.all.max 1) (take l.level-index l.level-items)
