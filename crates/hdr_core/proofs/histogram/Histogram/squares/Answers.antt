use Rattle.std.proofs.Common.{◌≡◌, ◌+◌, ◌*◌, ◌<◌, length, get_or, sum, ap, ◌∙◌, sym, arith}
use Rattle.hdr_base.specs.Classes.{Resolution, value_of}
use Rattle.hdr_counts.proofs.BlocksSums.{sum_below_more}
use Rattle.hdr_model.specs.Plain.{resolution}
use Rattle.hdr_model.specs.Deviation.{squares_from}
use Rattle.hdr_model.specs.Statistics.{median_of}
use Rattle.hdr_core.specs.Shown.{plain_of}
use Rattle.hdr_core.proofs.IteratingFacts.{AreBins-binned}
use Rattle.hdr_core.proofs.UsedBins.{sum-more-none}
use Rattle.hdr_model.proofs.DeviationSums.{square_at, squared-more, squares-more-none}
use Rattle.hdr_model.proofs.MergingKeeps.{past-zeros}
use Rattle.hdr_core.proofs.histogram.Histogram.squares.Given as given
use Rattle.hdr_core.proofs.histogram.Histogram.squares.Goals as goal
use Rattle.hdr_core.proofs.histogram.Histogram.squares.Goals.{In-loop-bin, After-as_u64}

-- the bin that is read, and its number
at : (g : given.Over) (c : In-loop-bin g) → c.loop-bin.bin < length c.self.inside.counts.numbers
at g c = omega (arith, c.loop-bin-test.true, c.len.ensures.value)

number : (g : given.Over) (c : After-as_u64 g) → c.as_u64.result ≡ get_or c.self.inside.counts.numbers c.loop-bin.bin 0
number g c = c.as_u64.ensures.value ∙ c.get.ensures

pub middle-requires : goal.middle-requires
middle-requires g c =
    rw c.self.invariant.scale (omega (arith, at g (goal.at.middle-requires g c).In-loop-bin, (AreBins-binned g.T.Counter.greatest (plain_of c.self.inside) c.self.invariant.plain).within))

pub loop-bin-preserved : goal.loop-bin-preserved
loop-bin-preserved g c =
    let h = plain_of c.self.inside in
    let i = c.loop-bin.bin in
    let inside = at g (goal.at.loop-bin-preserved g c).In-loop-bin in
    let held = number g (goal.at.loop-bin-preserved g c).After-as_u64 in
    let place : i ≡ 0 + i = omega arith in
    let on = c.next_filled-bin-in-loop-bin.ensures in
    let middle_is : c.middle.result ≡ median_of (resolution h) (value_of (resolution h) (0 + i)) =
    c.middle.ensures ∙ ap (λ (s : Resolution). median_of s (value_of s i)) c.self.invariant.scale
    ∙ ap (λ j. median_of (resolution h) (value_of (resolution h) j)) place in
    let term : c.square_of-square.result * c.as_u64.result ≡ square_at (resolution h) (0 + i) (get_or h.counts i 0) =
    ap (λ s. s * c.as_u64.result) (c.square_of-square.ensures ∙ ap (λ m. m * m) middle_is) ∙ ap (λ k. square_at (resolution h) (0 + i) k) held in (
      on.within,
      omega (arith, c.loop-bin.invariant.1, c.plus_product-sum.ensures.sum, term, squared-more (resolution h) 0 h.counts i inside, past-zeros (λ l. squares_from (resolution h) 0 l) (squares-more-none (resolution h) 0) h.counts (i + 1) c.next_filled-bin-in-loop-bin.result on.onward on.empty),
      omega (arith, c.loop-bin.invariant.2, c.plus_product-sum.ensures.at_most, held, sum_below_more h.counts i inside, past-zeros (λ l. sum l) sum-more-none h.counts (i + 1) c.next_filled-bin-in-loop-bin.result on.onward on.empty),
    )

pub loop-bin-init : goal.loop-bin-init
loop-bin-init g c =
    let h = plain_of c.self.inside in
    let on = c.next_filled-bin.ensures in
    (on.within, sym (past-zeros (λ l. squares_from (resolution h) 0 l) (squares-more-none (resolution h) 0) h.counts 0 c.next_filled-bin.result on.onward on.empty), omega arith)
