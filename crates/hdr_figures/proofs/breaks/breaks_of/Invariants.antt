use Rattle.std.specs.Prelude.{⊤}
use Rattle.std.specs.List.{All}
use Rattle.hdr_figures.specs.Breaks.{IsBreakOf}
use Rattle.hdr_figures.proofs.breaks.breaks_of.Given as goal

abbrev pub invariant-loop-gap : goal.invariant-loop-gap
invariant-loop-gap l = ⊤

abbrev pub invariant-loop-gap-2 : goal.invariant-loop-gap-2
invariant-loop-gap-2 l = All (IsBreakOf l.intervals) l.breaks.items
