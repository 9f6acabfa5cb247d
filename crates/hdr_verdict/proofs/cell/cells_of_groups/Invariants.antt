use Rattle.std.proofs.Common.{◌≡◌, ◌++◌, drop}
use Rattle.hdr_verdict.specs.Cells.{cells_of_groups}
use Rattle.hdr_verdict.proofs.cell.cells_of_groups.Given as goal

abbrev pub invariant-loop-index : goal.invariant-loop-index
invariant-loop-index l = l.cells.items ++ cells_of_groups l.counts l.stride l.end (drop l.index l.groups) ≡ cells_of_groups l.counts l.stride l.end l.groups
