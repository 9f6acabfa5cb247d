use Rattle.std.proofs.Common.{◌≡◌, ◌∙◌, ◌+◌, ◌-◌, ◌^◌, min, sum, take, ap, sym, arith}
use Rattle.std.specs.List.{slice_range}
use Rattle.hdr_model.specs.Plain.{Plain}
use Rattle.hdr_model.specs.Statistics.{bin_or_last}
use Rattle.hdr_model.proofs.StatisticsBetween.{between-samples, held-order, part-sum}
use Rattle.hdr_model.proofs.StatisticsShares.{part-covered}
use Rattle.hdr_core.proofs.histogram.Histogram.count_between.Given as given
use Rattle.hdr_core.proofs.histogram.Histogram.count_between.Goals as goal
use Rattle.hdr_core.proofs.histogram.Histogram.count_between.Goals.{Joined-from-eq0, then-from-eq0, else-from-eq0}

pub returns-then-from-to-clause-samples : goal.returns-then-from-to-clause-samples
returns-then-from-to-clause-samples g c = λ S stands le within.
    absurd (omega (arith, held-order g.T.Counter.greatest c.args.self.now c.args.low c.args.high c.bin_or_last-from.ensures.plain le within, c.bin_or_last-from.ensures.value, c.bin_or_last-to.ensures.value, c.if-from-to.true))

-- the sum before the first bin
before : (g : given.Over) (c : Joined-from-eq0 g) → c.if-from-eq0.before ≡ sum (take c.bin_or_last-from.result c.self.inside.counts.numbers)
before g c =
    let xs = c.self.inside.counts.numbers in
    elim c.if-from-eq0.branch [
      | then-from-eq0 w ↦ w.before-is ∙ ap (λ n. sum (take n xs)) (sym w.if-from-eq0.true)
      | else-from-eq0 w ↦ w.before-is ∙ w.sum_to-before.ensures ∙ ap (λ n. sum (take n xs)) (let e : c.bin_or_last-from.result - 1 + 1 ≡ c.bin_or_last-from.result = omega (arith, w.if-from-eq0.false) in e)
    ]

pub overflow_sub-sum_to : goal.overflow_sub-sum_to
overflow_sub-sum_to g c =
    omega (arith, before g (goal.at.overflow_sub-sum_to g c).Joined-from-eq0, c.sum_to.ensures, part-sum c.self.inside.counts.numbers c.bin_or_last-from.result (c.bin_or_last-to.result + 1) (omega (arith, c.if-from-to.false)))

pub returns-clause-value : goal.returns-clause-value
returns-clause-value g c =
    let h = c.args.self.now in
    let xs = c.self.inside.counts.numbers in
    let from = c.bin_or_last-from.result in
    let to = c.bin_or_last-to.result in
    let part : c.sum_to.result - c.if-from-eq0.before ≡ sum (slice_range xs from (to + 1)) = omega (arith, before g (goal.at.returns-clause-value g c).Joined-from-eq0, c.sum_to.ensures, part-sum xs from (to + 1) (omega (arith, c.if-from-to.false))) in
    c.saturating_from.ensures
    ∙ ap (λ n. min n (2 ^ 64 - 1)) (part
    ∙ ap (λ (p : Plain). sum (slice_range p.counts from (to + 1))) c.self.view_is
    ∙ ap (λ a. sum (slice_range h.counts a (to + 1))) c.bin_or_last-from.ensures.value
    ∙ ap (λ b. sum (slice_range h.counts (bin_or_last h c.args.low) (b + 1))) c.bin_or_last-to.ensures.value)

pub returns-clause-at_most : goal.returns-clause-at_most
returns-clause-at_most g c =
    let h = c.args.self.now in
    let p = c.bin_or_last-from.ensures.plain in
    let from = c.bin_or_last-from.result in
    let to = c.bin_or_last-to.result in
    let less : c.sum_to.result ≡ sum (take (to + 1) h.counts) = c.sum_to.ensures ∙ ap (λ (q : Plain). sum (take (to + 1) q.counts)) c.self.view_is in
    omega (arith, c.saturating_from.ensures, less, part-covered g.T.Counter.greatest h (to + 1) p)

pub returns-clause-samples : goal.returns-clause-samples
returns-clause-samples g c = λ S stands le within.
    returns-clause-value g c ∙ between-samples g.T.Counter.greatest c.args.self.now c.args.low c.args.high S c.bin_or_last-from.ensures.plain stands le within
