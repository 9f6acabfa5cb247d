use Rattle.std.proofs.Common.{◌≡◌, ◌⊎◌, ◌-◌, ◌^◌, rules, arith, min, Some, ◌≤◌, subst, sym, refl, inl, inr, IfSome}
use Rattle.std.proofs.lemmas.Result.{IfOk-weaker}
use Rattle.hdr_compare.specs.Counted.{IsCounted}
use Rattle.hdr_compare.specs.Intervals.{CountsAs}
use Rattle.hdr_compare.specs.Nearest.{IsGreatestAndNoEnd, IsNearestHigh, IsNoHighEnd, IsReachedUp}
use Rattle.hdr_compare.proofs.Nearest.{nearest_at_last, no_high_end, one_more_up, reached_up_by_fewer}
use Rattle.hdr_compare.proofs.Intervals.{counts_after, high_end_is, least_count}
use Rattle.hdr_compare.proofs.run.Run.high_end.Goals.{else-loop-test, then-loop-test+in_ok-upto+in-Some-false}
use Rattle.hdr_compare.proofs.run.Run.high_end.Goals as goal

pub returns-in-Some-true-clause-high : goal.returns-in-Some-true-clause-high
returns-in-Some-true-clause-high c =
    let hs = c.args.self.now.batches.items in
    let upto = c.in_ok-upto.upto in
    let is = c.in-Some-true.ensures.is (search (rules, c.in-Some-true.field-0-test)) in
    let counted : IsCounted c.args.tier hs (Some c.loop.high) upto = search (rules, c.in_ok-upto.ensures, c.deref.ensures.value) in
    let most : c.min-independent.result ≤ upto.independent = omega (arith, c.min-independent.ensures) in
    let end = high_end_is hs c.loop.high upto _ is counted most c.args.self.now.count in
    search (rules, end, c.at.ensures.value, c.at.ensures.independent)

pub returns-clause-counts : goal.returns-clause-counts
returns-clause-counts c =
    let hs = c.args.self.now.batches.items in
    let tier = c.args.tier in
    let n = c.args.independent in
    let e = c.loop-test.independent in
    let before-end : CountsAs hs tier n e =
    elim c.loop-test.branch [
      | else-loop-test w ↦ subst (CountsAs hs tier n) (sym w.independent-is) c.loop.invariant.1
      | then-loop-test+in_ok-upto+in-Some-false w ↦ (
          let upto = w.in_ok-upto.upto in
          let counted : IsCounted tier hs (Some c.loop.high) upto = search (rules, w.in_ok-upto.ensures, w.deref.ensures.value) in
          let least : min c.loop.independent upto.independent ≡ e = omega (arith, w.independent-is, w.min-independent.ensures) in
          subst (CountsAs hs tier n) least (least_count hs tier (Some c.loop.high) upto n c.loop.independent counted c.loop.invariant.1))
    ] in
    IfOk-weaker c.greatest_end.result (λ end. CountsAs hs tier e end.independent) (λ end. CountsAs hs tier n end.independent)
    (λ end counts. counts_after hs tier n e end.independent before-end counts) c.greatest_end.ensures.counts

pub loop-preserved : goal.loop-preserved
loop-preserved c =
    let self = c.args.self.now in
    let hs = self.batches.items in
    let q = c.args.quantile in
    let tier = c.args.tier in
    let upto = c.in_ok-upto.upto in
    let e = c.min-independent.result in
    let counted : IsCounted tier hs (Some c.loop.high) upto = search (rules, c.in_ok-upto.ensures, c.deref.ensures.value) in
    let fewer : e ≤ c.loop.independent = omega (arith, c.min-independent.ensures) in
    let least : min c.loop.independent upto.independent ≡ e = sym c.min-independent.ensures in
    let no : IsNoHighEnd hs q tier e c.loop.high upto = no_high_end hs c.loop.high upto _ counted self.count (λ first. cc (c.is_high_end.ensures.missed first, c.in-None.is)) in (
      omega (arith, fewer, c.loop.invariant.0),
      subst (CountsAs hs tier c.args.independent) least (least_count hs tier (Some c.loop.high) upto c.args.independent c.loop.independent counted c.loop.invariant.1),
      one_more_up self.all hs q tier e c.loop.counter c.args.value c.value_at_rank-high.result (
        c.loop.high,
        upto,
        reached_up_by_fewer self.all hs q tier c.loop.independent e c.loop.counter c.args.value c.loop.high fewer c.loop.invariant.2,
        no,
        search (rules, c.value_at_rank-high.ensures, c.saturating_add.ensures, self.count),
      ),
    )

pub returns-in-Some-true-clause-nearest : goal.returns-in-Some-true-clause-nearest
returns-in-Some-true-clause-nearest c =
    let self = c.args.self.now in
    let hs = self.batches.items in
    let q = c.args.quantile in
    let tier = c.args.tier in
    let e = c.min-independent.result in
    let fewer : e ≤ c.loop.independent = omega (arith, c.min-independent.ensures) in
    let near : IsNearestHigh self.all hs q tier e c.args.value c.loop.high = record {
      classes = c.loop.counter;
      next = c.loop.high;
      reached = reached_up_by_fewer self.all hs q tier c.loop.independent e c.loop.counter c.args.value c.loop.high fewer c.loop.invariant.2;
      is = inl refl;
    } in
    search (rules, near, c.at.ensures.value, c.at.ensures.independent)

pub returns-clause-nearest : goal.returns-clause-nearest
returns-clause-nearest c =
    let self = c.args.self.now in
    let hs = self.batches.items in
    let q = c.args.quantile in
    let tier = c.args.tier in
    let n = c.loop.counter in
    let e = c.loop-test.independent in
    let high = c.loop.high in
    let done : IsReachedUp self.all hs q tier e n c.args.value high × (IsGreatestAndNoEnd hs q tier e high ⊎ (2 ^ 64 - 1 ≤ n)) =
    elim c.loop-test.branch [
      | else-loop-test w ↦ (subst (λ d. IsReachedUp self.all hs q tier d n c.args.value high) (sym w.independent-is) c.loop.invariant.2, inr (omega (arith, w.loop-test.false)))
      | then-loop-test+in_ok-upto+in-Some-false w ↦ (
          let upto = w.in_ok-upto.upto in
          let counted : IsCounted tier hs (Some high) upto = search (rules, w.in_ok-upto.ensures, w.deref.ensures.value) in
          let fewer : w.min-independent.result ≤ c.loop.independent = omega (arith, w.min-independent.ensures) in
          let no : IsNoHighEnd hs q tier w.min-independent.result high upto = no_high_end hs high upto _ counted self.count (λ first. cc (w.is_high_end.ensures.missed first, w.in-Some-false.is, w.in-Some-false.field-0-test)) in
          let reached = reached_up_by_fewer self.all hs q tier c.loop.independent w.min-independent.result n c.args.value high fewer c.loop.invariant.2 in
          subst (λ d. IsReachedUp self.all hs q tier d n c.args.value high × (IsGreatestAndNoEnd hs q tier d high ⊎ (2 ^ 64 - 1 ≤ n))) (sym w.independent-is)
          (reached, inl (upto, no, omega (arith, self.count, w.is_high_end.ensures.none_after (cc (w.in-Some-false.is, w.in-Some-false.field-0-test))))))
    ] in
    IfOk-weaker c.greatest_end.result (λ end. (end.independent ≤ e) × IfSome end.value (λ v. v ≡ 2 ^ 64 - 1)) (λ end. IfSome end.value (IsNearestHigh self.all hs q tier end.independent c.args.value))
    (λ end last. nearest_at_last self.all hs q tier e end.independent n c.args.value high end.value last.0 done.0 done.1 last.1) c.greatest_end.ensures.last
