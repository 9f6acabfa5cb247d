use Rattle.std.proofs.Common.{◌≡◌, ◌++◌, map, take}
use Rattle.std.specs.List.{All}
use Rattle.hdr_verdict.specs.declared.usual.TailValues.{TailValues}
use Rattle.hdr_verdict.specs.Blocks.{AreNoBlocks, tails_of, values_of}
use Rattle.hdr_verdict.specs.TagSamples.{width_of_tag}
use Rattle.hdr_verdict.proofs.usual_values.blocks_of.Given as goal

abbrev pub invariant-loop-tail : goal.invariant-loop-tail
invariant-loop-tail l = record {
  all : All (AreNoBlocks (width_of_tag l.samples) l.total) l.all.items;
  last : AreNoBlocks (width_of_tag l.samples) l.total l.blocks;
  tails : map (λ (own : TailValues). own.tail) (values_of l.all.items) ++ tails_of l.blocks ≡ take l.tail-index l.tails;
}
