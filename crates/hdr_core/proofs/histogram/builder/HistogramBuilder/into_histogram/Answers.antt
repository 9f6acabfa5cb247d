use Rattle.std.proofs.Common.{◌≤◌, sym, subst}
use Rattle.std.specs.List.{All}
use Rattle.hdr_counts.specs.Blocks.{Blocks}
use Rattle.hdr_model.specs.Unfinished.{AreBinsFor}
use Rattle.hdr_model.specs.Marks.{IsTopMark, IsLowerMark}
use Rattle.hdr_model.proofs.UnfinishedFacts.{some-bins, closed-plain}
use Rattle.hdr_core.proofs.histogram.builder.HistogramBuilder.into_histogram.Goals as goal

pub capped_sum-requires : goal.capped_sum-requires
capped_sum-requires g c =
    let f = c.self.inside in
    let b : AreBinsFor f.bounds.low f.bounds.high f.bounds.sigfig f.scale c.into_counts-counts.result = subst (λ (b : Blocks). AreBinsFor f.bounds.low f.bounds.high f.bounds.sigfig f.scale b) (sym c.into_counts-counts.ensures.value) c.self.invariant in
    some-bins f.bounds.low f.bounds.high f.bounds.sigfig c.into_counts-counts.result.numbers b.whole

pub invariant_of-result : goal.invariant_of-result
invariant_of-result g c =
    let f = c.self.inside in
    let b : AreBinsFor f.bounds.low f.bounds.high f.bounds.sigfig f.scale c.into_counts-counts.result = subst (λ (b : Blocks). AreBinsFor f.bounds.low f.bounds.high f.bounds.sigfig f.scale b) (sym c.into_counts-counts.ensures.value) c.self.invariant in
    let fit = subst (λ (b : Blocks). All (λ n. n ≤ g.T.Counter.greatest) b.numbers) (sym c.into_counts-counts.ensures.value) c.into_counts-counts.ensures.fit in
    record {
      scale = b.same_scale;
      block = b.block;
      plain = closed-plain g.T.Counter.greatest _ c.into_counts-counts.result.block f.scale b fit c.capped_sum.ensures (subst (λ (b : Blocks). IsTopMark b.numbers c.marks_of-marks.result.top) (sym c.into_counts-counts.ensures.value) c.marks_of-marks.ensures.top) (subst (λ (b : Blocks). IsLowerMark b.numbers c.marks_of-marks.result.lower) (sym c.into_counts-counts.ensures.value) c.marks_of-marks.ensures.lower);
    }
