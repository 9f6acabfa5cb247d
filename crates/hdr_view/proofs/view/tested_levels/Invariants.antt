use Rattle.std.proofs.Common.{take}
use Rattle.std.specs.List.{AllZip}
use Rattle.hdr_view.specs.Views.{IsLevelOf}
use Rattle.hdr_view.proofs.view.tested_levels.Given as goal

abbrev pub invariant-loop-level : goal.invariant-loop-level
invariant-loop-level l = AllZip IsLevelOf (take l.level-index l.levels) l.all.items
