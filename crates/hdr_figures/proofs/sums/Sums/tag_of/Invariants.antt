use Rattle.std.specs.Slice.Iter.{chunk_by_rest}
use Rattle.hdr_figures.specs.TagSums.{HasOwnClasses}
use Rattle.hdr_figures.specs.declared.sums.Key.{Key}
use Rattle.hdr_figures.proofs.TagParts.{ArePoints}
use Rattle.hdr_figures.proofs.sums.Sums.tag_of.Given as goal

-- the points so far have the sums that were added
abbrev pub invariant-loop-part : goal.invariant-loop-part
invariant-loop-part l = record {
  points : ArePoints (λ (k : Key). k.interval.now) (chunk_by_rest l.part-iterator) l.keys l.sum.histogram;
  own : HasOwnClasses l.self.point.histogram;
}
