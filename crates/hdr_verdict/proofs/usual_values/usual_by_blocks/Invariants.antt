use Rattle.std.proofs.Common.{◌-◌, ◌^◌, ℕ, List, min}
use Rattle.std.specs.List.{sum_by}
use Rattle.hdr_verdict.specs.declared.cell.Cell.{Cell}
use Rattle.hdr_verdict.proofs.BlockFacts.{AreBlocksFor}
use Rattle.hdr_verdict.specs.TagSamples.{HasSamples, KeepsCells, width_of_tag, cells_of}
use Rattle.hdr_verdict.proofs.usual_values.usual_by_blocks.Given as goal

abbrev pub invariant-loop-index : goal.invariant-loop-index
invariant-loop-index l = record {
  keeps : KeepsCells l.initial.samples l.samples;
  blocks : (cells : List (List ℕ)) → HasSamples l.initial.samples cells
      → AreBlocksFor (width_of_tag l.initial.samples) cells (min (sum_by (λ (cell : Cell). cell.samples) (cells_of l.initial.samples)) (2 ^ 64 - 1)) l.index l.tails l.all.items;
}
