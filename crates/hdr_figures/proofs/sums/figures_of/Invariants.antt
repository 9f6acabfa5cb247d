use Rattle.std.specs.Slice.Iter.{chunk_by_rest}
use Rattle.hdr_figures.specs.TagSums.{HasOwnClasses}
use Rattle.hdr_figures.specs.declared.sums.Key.{Key}
use Rattle.hdr_figures.proofs.TagParts.{AreTags}
use Rattle.hdr_figures.proofs.sums.figures_of.Given as goal

-- the tags so far have the sums that were added
abbrev pub invariant-loop-part : goal.invariant-loop-part
invariant-loop-part l = record {
  tags : AreTags (λ (k : Key). k.interval.now) (chunk_by_rest l.part-iterator) l.fn.intervals l.levels l.tags.items l.sum.histogram;
  own : HasOwnClasses l.sums.point.histogram;
}
