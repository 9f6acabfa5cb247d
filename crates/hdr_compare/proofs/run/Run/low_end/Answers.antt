use Rattle.std.proofs.Common.{◌≡◌, ◌⊎◌, ◌-◌, ◌^◌, rules, arith, min, ◌≤◌, subst, sym, refl, inl, inr, ◌∙◌, ap, IfSome}
use Rattle.std.proofs.lemmas.Result.{IfOk-weaker}
use Rattle.hdr_compare.specs.Intervals.{CountsAs, before}
use Rattle.hdr_compare.specs.Counted.{IsCounted}
use Rattle.hdr_base.specs.Classes.{lowest_of}
use Rattle.hdr_model.specs.Plain.{resolution}
use Rattle.hdr_compare.specs.Nearest.{IsLeastAndNoEnd, IsNearestLow, IsNoLowEnd, IsReachedDown}
use Rattle.hdr_compare.proofs.Nearest.{nearest_at_0, no_low_end, one_more, reached_by_fewer}
use Rattle.hdr_compare.proofs.Intervals.{counts_after, low_end_is, least_count}
use Rattle.hdr_compare.proofs.run.Run.low_end.Goals.{else-loop-test, then-loop-test+in_ok-under+in-Some-false}
use Rattle.hdr_compare.proofs.run.Run.low_end.Goals as goal

pub returns-in-Some-true-clause-low : goal.returns-in-Some-true-clause-low
returns-in-Some-true-clause-low c =
    let hs = c.args.self.now.batches.items in
    let under = c.in_ok-under.under in
    let is = c.in-Some-true.ensures.is (search (rules, c.in-Some-true.field-0-test)) in
    let counted : IsCounted c.args.tier hs (before c.loop.low) under = search (rules, c.in_ok-under.ensures, c.deref.ensures.value) in
    let most : c.min-independent.result ≤ under.independent = omega (arith, c.min-independent.ensures) in
    let end = low_end_is hs c.loop.low under _ is counted most c.args.self.now.count in
    search (rules, end, c.at.ensures.value, c.at.ensures.independent)

pub returns-clause-counts : goal.returns-clause-counts
returns-clause-counts c =
    let hs = c.args.self.now.batches.items in
    let tier = c.args.tier in
    let n = c.args.independent in
    let e = c.loop-test.independent in
    let before-end : CountsAs hs tier n e =
    elim c.loop-test.branch [
      | else-loop-test w ↦ subst (CountsAs hs tier n) (sym w.independent-is) c.loop.invariant.1
      | then-loop-test+in_ok-under+in-Some-false w ↦ (
          let under = w.in_ok-under.under in
          let counted : IsCounted tier hs (before c.loop.low) under = search (rules, w.in_ok-under.ensures, w.deref.ensures.value, w.checked_sub.ensures) in
          let least : min c.loop.independent under.independent ≡ e = omega (arith, w.independent-is, w.min-independent.ensures) in
          subst (CountsAs hs tier n) least (least_count hs tier (before c.loop.low) under n c.loop.independent counted c.loop.invariant.1))
    ] in
    IfOk-weaker c.least_end.result (λ end. CountsAs hs tier e end.independent) (λ end. CountsAs hs tier n end.independent)
    (λ end counts. counts_after hs tier n e end.independent before-end counts) c.least_end.ensures.counts

pub loop-preserved : goal.loop-preserved
loop-preserved c =
    let self = c.args.self.now in
    let hs = self.batches.items in
    let q = c.args.quantile in
    let tier = c.args.tier in
    let under = c.in_ok-under.under in
    let e = c.min-independent.result in
    let counted : IsCounted tier hs (before c.loop.low) under = search (rules, c.in_ok-under.ensures, c.deref.ensures.value, c.checked_sub.ensures) in
    let fewer : e ≤ c.loop.independent = omega (arith, c.min-independent.ensures) in
    let least : min c.loop.independent under.independent ≡ e = sym c.min-independent.ensures in
    let no : IsNoLowEnd hs q tier e c.loop.low under = no_low_end hs c.loop.low under _ counted self.count (λ first. cc (c.is_low_end.ensures.missed first, c.in-None.is)) in (
      omega (arith, fewer, c.loop.invariant.0),
      subst (CountsAs hs tier c.args.independent) least (least_count hs tier (before c.loop.low) under c.args.independent c.loop.independent counted c.loop.invariant.1),
      one_more self.all hs q tier e c.loop.counter c.args.value c.lowest_equivalent-low-in-loop.result (
        c.loop.low,
        under,
        reached_by_fewer self.all hs q tier c.loop.independent e c.loop.counter c.args.value c.loop.low fewer c.loop.invariant.2,
        no,
        c.lowest_equivalent-low-in-loop.ensures ∙ ap (lowest_of (resolution self.all)) (search (rules, c.value_at_rank.ensures)),
      ),
    )

pub returns-in-Some-true-clause-nearest : goal.returns-in-Some-true-clause-nearest
returns-in-Some-true-clause-nearest c =
    let self = c.args.self.now in
    let hs = self.batches.items in
    let q = c.args.quantile in
    let tier = c.args.tier in
    let e = c.min-independent.result in
    let fewer : e ≤ c.loop.independent = omega (arith, c.min-independent.ensures) in
    let near : IsNearestLow self.all hs q tier e c.args.value c.loop.low = record {
      classes = c.loop.counter;
      next = c.loop.low;
      reached = reached_by_fewer self.all hs q tier c.loop.independent e c.loop.counter c.args.value c.loop.low fewer c.loop.invariant.2;
      is = inl refl;
    } in
    search (rules, near, c.at.ensures.value, c.at.ensures.independent)

pub returns-clause-nearest : goal.returns-clause-nearest
returns-clause-nearest c =
    let self = c.args.self.now in
    let hs = self.batches.items in
    let q = c.args.quantile in
    let tier = c.args.tier in
    let n = c.loop.counter in
    let e = c.loop-test.independent in
    let low = c.loop.low in
    let done : IsReachedDown self.all hs q tier e n c.args.value low × (IsLeastAndNoEnd hs q tier e low ⊎ (2 ^ 64 - 1 ≤ n)) =
    elim c.loop-test.branch [
      | else-loop-test w ↦ (subst (λ d. IsReachedDown self.all hs q tier d n c.args.value low) (sym w.independent-is) c.loop.invariant.2, inr (omega (arith, w.loop-test.false)))
      | then-loop-test+in_ok-under+in-Some-false w ↦ (
          let under = w.in_ok-under.under in
          let counted : IsCounted tier hs (before low) under = search (rules, w.in_ok-under.ensures, w.deref.ensures.value, w.checked_sub.ensures) in
          let fewer : w.min-independent.result ≤ c.loop.independent = omega (arith, w.min-independent.ensures) in
          let no : IsNoLowEnd hs q tier w.min-independent.result low under = no_low_end hs low under _ counted self.count (λ first. cc (w.is_low_end.ensures.missed first, w.in-Some-false.is, w.in-Some-false.field-0-test)) in
          let reached = reached_by_fewer self.all hs q tier c.loop.independent w.min-independent.result n c.args.value low fewer c.loop.invariant.2 in
          subst (λ d. IsReachedDown self.all hs q tier d n c.args.value low × (IsLeastAndNoEnd hs q tier d low ⊎ (2 ^ 64 - 1 ≤ n))) (sym w.independent-is)
          (reached, inl (under, no, w.is_low_end.ensures.none_before (cc (w.in-Some-false.is, w.in-Some-false.field-0-test)))))
    ] in
    IfOk-weaker c.least_end.result (λ end. (end.independent ≤ e) × IfSome end.value (λ v. v ≡ 0)) (λ end. IfSome end.value (IsNearestLow self.all hs q tier end.independent c.args.value))
    (λ end zero. nearest_at_0 self.all hs q tier e end.independent n c.args.value low end.value zero.0 done.0 done.1 zero.1) c.least_end.ensures.zero
