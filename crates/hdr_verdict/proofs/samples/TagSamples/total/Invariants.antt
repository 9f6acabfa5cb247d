use Rattle.std.proofs.Common.{◌≡◌, ◌^◌, ◌-◌, take, min}
use Rattle.std.specs.List.{sum_by}
use Rattle.hdr_verdict.specs.declared.cell.Cell.{Cell}
use Rattle.hdr_verdict.proofs.samples.TagSamples.total.Given as goal

abbrev pub invariant-loop-cell : goal.invariant-loop-cell
invariant-loop-cell l = l.total ≡ min (sum_by (λ (cell : Cell). cell.samples) (take l.cell-index l.cell-items)) (2 ^ 64 - 1)
