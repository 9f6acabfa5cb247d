use Rattle.std.proofs.Common.{◌≡◌, ◌≤◌, ◌+◌, ◌-◌, length, [], ◌∷◌, ◌++◌, subst, sym, ap, ◌∙◌, arith}
use Rattle.std.proofs.lemmas.List.{length-append}
use Rattle.hdr_summary.specs.declared.bars.Step.{Step}
use Rattle.hdr_model.specs.Plain.{resolution}
use Rattle.hdr_summary.specs.Bars.{LeadTo, count_of, begun, HaveBegun}
use Rattle.hdr_summary.proofs.StepsLead.{lead-append, count-append, begun-ascends, begun-append}
use Rattle.hdr_summary.proofs.bars.steps_of.Goals as goal

pub loop-preserved : goal.loop-preserved
loop-preserved c =
    let steps = c.loop.steps.items in
    let s : Step = record { lowest = c.loop.lowest; greatest = c.end_of-end.result; count = c.saturating_sub-count.result } in
    let items : c.push.new.self.items ≡ steps ++ s ∷ [] = c.in_ok-push.ensures.items in
    let more : length c.push.new.self.items + 1 ≤ c.loop.counter + 1 = rw items (omega (arith, length-append steps (s ∷ []), c.loop.invariant.0)) in
    let count : count_of c.push.new.self.items ≡ c.loop.below + c.saturating_sub-count.result = ap count_of items ∙ count-append steps s ∙ ap (λ n. n + s.count) c.loop.invariant.1 in
    let below : c.loop.below + c.saturating_sub-count.result ≤ c.args.histogram.now.total = omega (arith, c.loop.invariant.2, c.saturating_sub-count.ensures, c.count_begun.ensures.at_most) in (
      more,
      count,
      below,
      λ le. (
        let h : c.end_of-end.result + 1 ≤ c.args.greatest = omega (arith, c.if-end-greatest.false) in h,
        subst (λ l. LeadTo c.args.least l (c.end_of-end.result + 1)) (sym items) (lead-append c.args.least steps s ((c.loop.invariant.3 le).1) c.end_of-end.ensures),
      ),
      λ S stands. (
          let g = resolution c.args.histogram.now in
          let end = c.end_of-end.result in
          let so-far = c.loop.invariant.4 S stands in
          let ends : c.count_begun.result ≡ begun g S end = c.count_begun.ensures.samples S stands in
          let least : c.loop.below ≤ begun g S end = so-far.1 end c.end_of-end.ensures in
          let upto : c.loop.below + c.saturating_sub-count.result ≡ begun g S end = omega (arith, ends, least, c.saturating_sub-count.ensures) in
          let have : HaveBegun g S 0 (steps ++ s ∷ []) = begun-append g S 0 steps s so-far.0 (omega (arith, upto, c.loop.invariant.1)) in (
            subst (λ l. HaveBegun g S 0 l) (sym items) have,
            λ v le. (let h : c.loop.below + c.saturating_sub-count.result ≤ begun g S v = omega (arith, upto, begun-ascends g S end v (omega (arith, le))) in h),
          )
          ),
    )

pub returns-clause-order : goal.returns-clause-order
returns-clause-order c = λ le. (
    let steps = c.loop.steps.items in
    let s : Step = record { lowest = c.loop.lowest; greatest = c.args.greatest; count = c.len.result - c.loop.below } in
    let items : c.push-2.new.self.items ≡ steps ++ s ∷ [] = c.in_ok-push-2.ensures.items in
    subst (λ l. LeadTo c.args.least l (c.args.greatest + 1)) (sym items) (lead-append c.args.least steps s ((c.loop.invariant.3 le).1) ((c.loop.invariant.3 le).0))
    )

pub returns-clause-own : goal.returns-clause-own
returns-clause-own c = λ S stands. (
    let s : Step = record { lowest = c.loop.lowest; greatest = c.args.greatest; count = c.len.result - c.loop.below } in
    (c.loop.steps.items, s, c.in_ok-push-2.ensures.items, (c.loop.invariant.4 S stands).0)
    )
