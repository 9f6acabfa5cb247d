use Rattle.std.proofs.Common.{◌≡◌, map, take}
use Rattle.std.specs.List.{All}
use Rattle.hdr_figures.specs.Figures.{value_at}
use Rattle.hdr_figures.specs.Widths.{IsWithClass}
use Rattle.hdr_figures.specs.declared.level.LevelValue.{LevelValue}
use Rattle.hdr_figures.specs.declared.level.PageLevel.{PageLevel}
use Rattle.hdr_figures.proofs.sum.Sum.at_levels.Given as goal

abbrev pub invariant-loop-level : goal.invariant-loop-level
invariant-loop-level l = record {
  values : map (λ (at : LevelValue). at.value) l.all.items ≡ map (λ (level : PageLevel). value_at l.self.histogram level.num level.den) (take l.level-index l.levels);
  class : All (IsWithClass l.self.width) l.all.items;
}
