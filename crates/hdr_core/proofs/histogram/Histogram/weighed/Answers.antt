use Rattle.std.proofs.Common.{◌≡◌, ◌+◌, ◌*◌, ◌<◌, length, get_or, sum, ap, ◌∙◌, sym, arith}
use Rattle.hdr_base.specs.Classes.{Resolution, value_of}
use Rattle.hdr_counts.proofs.BlocksSums.{sum_below_more, sum_below-le-sum}
use Rattle.hdr_model.specs.Plain.{Plain, resolution}
use Rattle.hdr_core.specs.Shown.{plain_of}
use Rattle.hdr_model.specs.Statistics.{median_of, weight_from}
use Rattle.hdr_core.proofs.IteratingFacts.{AreBins-binned}
use Rattle.hdr_core.proofs.UsedBins.{sum-more-none, weight-more-none}
use Rattle.hdr_model.proofs.MergingKeeps.{past-zeros}
use Rattle.hdr_model.proofs.StatisticsMeans.{weighed-more}
use Rattle.hdr_core.proofs.histogram.Histogram.weighed.Given as given
use Rattle.hdr_core.proofs.histogram.Histogram.weighed.Goals as goal
use Rattle.hdr_core.proofs.histogram.Histogram.weighed.Goals.{In-loop-bin, After-as_u64}

-- the bin that is read, and its number
at : (g : given.Over) (c : In-loop-bin g) → c.loop-bin.bin < length c.self.inside.counts.numbers
at g c = omega (arith, c.loop-bin-test.true, c.len.ensures.value)

number : (g : given.Over) (c : After-as_u64 g) → c.as_u64.result ≡ get_or c.self.inside.counts.numbers c.loop-bin.bin 0
number g c = c.as_u64.ensures.value ∙ c.get.ensures

pub weight-sum-requires : goal.weight-sum-requires
weight-sum-requires g c =
    rw c.self.invariant.scale (omega (arith, at g (goal.at.weight-sum-requires g c).In-loop-bin, (AreBins-binned g.T.Counter.greatest (plain_of c.self.inside) c.self.invariant.plain).within))

pub overflow_add-sum : goal.overflow_add-sum
overflow_add-sum g c =
    let h = plain_of c.self.inside in
    let i = c.loop-bin.bin in
    let total_is : h.total ≡ c.args.self.now.total = ap (λ (q : Plain). q.total) c.self.view_is in
    omega (arith, number g (goal.at.overflow_add-sum g c).After-as_u64, c.weight-sum.ensures.bound, c.loop-bin.invariant.2, sum_below_more h.counts i (at g (goal.at.overflow_add-sum g c).In-loop-bin), sum_below-le-sum h.counts (i + 1), c.self.invariant.plain.total_covers, total_is, c.requires)

pub loop-bin-preserved : goal.loop-bin-preserved
loop-bin-preserved g c =
    let h = plain_of c.self.inside in
    let i = c.loop-bin.bin in
    let inside = at g (goal.at.loop-bin-preserved g c).In-loop-bin in
    let held = number g (goal.at.loop-bin-preserved g c).After-as_u64 in
    let place : i ≡ 0 + i = omega arith in
    let on = c.next_filled-bin-in-loop-bin.ensures in
    let weight_is : c.weight-sum.result ≡ median_of (resolution h) (value_of (resolution h) (0 + i)) * get_or h.counts i 0 =
    c.weight-sum.ensures.value ∙ ap (λ (s : Resolution). median_of s (value_of s i) * c.as_u64.result) c.self.invariant.scale
    ∙ ap (λ k. median_of (resolution h) (value_of (resolution h) i) * k) held ∙ ap (λ j. median_of (resolution h) (value_of (resolution h) j) * get_or h.counts i 0) place in (
      on.within,
      omega (arith, c.loop-bin.invariant.1, weighed-more (resolution h) 0 h.counts i inside, weight_is, past-zeros (λ l. weight_from (resolution h) 0 l) (weight-more-none (resolution h) 0) h.counts (i + 1) c.next_filled-bin-in-loop-bin.result on.onward on.empty),
      omega (arith, c.loop-bin.invariant.2, c.weight-sum.ensures.bound, held, sum_below_more h.counts i inside, past-zeros (λ l. sum l) sum-more-none h.counts (i + 1) c.next_filled-bin-in-loop-bin.result on.onward on.empty),
    )

pub loop-bin-init : goal.loop-bin-init
loop-bin-init g c =
    let h = plain_of c.self.inside in
    let on = c.next_filled-bin.ensures in
    (on.within, sym (past-zeros (λ l. weight_from (resolution h) 0 l) (weight-more-none (resolution h) 0) h.counts 0 c.next_filled-bin.result on.onward on.empty), omega arith)
