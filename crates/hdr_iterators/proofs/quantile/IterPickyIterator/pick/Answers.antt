use Rattle.std.proofs.Common.{◌≡◌, ◌+◌, ◌^◌, ◌<◌, ◌≤◌, Bool, true, false, cond, List, [], ◌∷◌, get_or, drop, Some, None, sym, refl, ap, ap₂, ◌∙◌, subst, arith}
use Rattle.hdr_iterators.specs.Seen.{running}
use Rattle.hdr_iterators.specs.Picks.{Pick, NoneBefore}
use Rattle.hdr_iterators.specs.Places.{quantile_picks, tick_pick, tick_of, is_within}
use Rattle.hdr_iterators.specs.Ticks.{TickOf, TickStep, ticks_yielded}
use Rattle.hdr_iterators.proofs.TicksLists.{pass_empty, pass_open}
use Rattle.hdr_iterators.proofs.TicksSteps.{advances, begins_to_close}
use Rattle.hdr_iterators.proofs.quantile.IterPickyIterator.pick.Goals as goal
use Rattle.hdr_iterators.proofs.quantile.IterPickyIterator.pick.Goals.{then-self-via-then-self, then-self-via-else-self+then-as_u64-eq0, then-total_count_to_index-total, else-total_count_to_index-total+then-is_within}

pub returns-then-self : goal.returns-then-self
returns-then-self g c = λ h last w candidate ahead.
    let p = c.args.self.now in
    let i = c.args.index in
    let coming : List Pick = drop (ticks_yielded p.next.number p.closing) (quantile_picks h p.next.per_half) in
    elim c.then-self.branch [
      | then-self-via-then-self b ↦ (w, refl, subst (λ d. NoneBefore (i + 1) (cond d [] coming)) (sym b.if-self.true) tt)
      | then-self-via-else-self+then-as_u64-eq0 b ↦ (
        w,
        refl,
        subst (λ d. NoneBefore (i + 1) (cond d [] coming)) (sym b.if-self.false)
            (pass_empty h p.next.per_half i (ticks_yielded p.next.number p.closing) candidate.inside (omega (arith, candidate.count_is, b.if-as_u64-eq0.true, b.as_u64.ensures.value)) (subst (λ d. NoneBefore i (cond d [] coming)) b.if-self.false ahead)),
      )
    ]

pub returns-else-is_within : goal.returns-else-is_within
returns-else-is_within g c = λ h last w candidate ahead.
    let p = c.args.self.now in
    let i = c.args.index in
    let coming : Bool → List Pick = λ closing. drop (ticks_yielded p.next.number closing) (quantile_picks h p.next.per_half) in
    let ahead_there : NoneBefore i (coming false) = subst (λ b. NoneBefore i (coming b)) c.if-self-2.false (subst (λ d. NoneBefore i (cond d [] (coming p.closing))) c.if-self.false ahead) in
    let total_is : c.total.result ≡ h.total = c.total.ensures ∙ w.2 in
    let out : is_within p.next.per_half (running h i) h.total p.next.number ≡ false = ap₂ (λ r n. is_within p.next.per_half r n p.next.number) (sym candidate.total_is) (sym w.2) ∙ (sym c.is_within.ensures.value ∙ c.if-is_within.false) in
    let past : NoneBefore (i + 1) (coming false) = pass_open h p.next.per_half i p.next.number w.1.some candidate.inside (omega (arith, candidate.count_is, c.if-as_u64-eq0.false, c.as_u64.ensures.value)) (omega (arith, candidate.total_is, total_is, c.if-total_count_to_index-total.false)) out in
    (w, refl, subst (λ d. NoneBefore (i + 1) (cond d [] (coming p.closing))) (sym c.if-self.false) (subst (λ b. NoneBefore (i + 1) (coming b)) (sym c.if-self-2.false) past))

pub returns : goal.returns
returns g c = λ h last w candidate ahead.
    let p = c.args.self.now in
    let i = c.args.index in
    let t = p.next.per_half in
    let k = p.next.number in
    let coming : Bool → List Pick = λ closing. drop (ticks_yielded p.next.number closing) (quantile_picks h p.next.per_half) in
    let ahead_there : NoneBefore i (coming false) = subst (λ b. NoneBefore i (coming b)) c.if-self-2.false (subst (λ d. NoneBefore i (cond d [] (coming p.closing))) c.if-self.false ahead) in
    let step : TickStep h t k false false last = subst (λ b. TickStep h t k b false last) c.if-self-2.false (subst (λ d. TickStep h t k p.closing d last) c.if-self.false w.1) in
    let total_is : c.total.result ≡ h.total = c.total.ensures ∙ w.2 in
    let some : 0 < get_or h.numbers i 0 = omega (arith, candidate.count_is, c.if-as_u64-eq0.false, c.as_u64.ensures.value) in
    let picks_is : cond p.done [] (coming p.closing) ≡ coming false = ap (λ d. cond d [] (coming p.closing)) c.if-self.false ∙ ap coming c.if-self-2.false in
    let first : Pick = record { place = i; tick = Some c.fraction-tick.result; level = None } in
    let first_is : tick_pick i (tick_of t k) ≡ first = ap (tick_pick i) (sym c.fraction-tick.ensures) in
    elim c.if-total_count_to_index-total.branch [
      | then-total_count_to_index-total b ↦
          let full : h.total ≤ running h i = omega (arith, candidate.total_is, total_is, b.if-total_count_to_index-total.true) in
          let both = begins_to_close h t k i last step candidate.inside some full ahead_there in
          let rest : drop (k + 1) (quantile_picks h t) ≡ cond p.done [] (coming true) = ap (λ d. cond d [] (coming true)) (sym c.if-self.false) in
          rw (b.self-is, c.new-2.ensures) (
            (w.0, subst (λ d. TickStep h t k true d (Some i)) (sym c.if-self.false) both.0, w.2),
            picks_is ∙ (both.1 ∙ ap₂ (λ q ps. q ∷ ps) first_is rest),
          )
      | else-total_count_to_index-total+then-is_within b ↦
          let below_total : running h i < h.total = omega (arith, candidate.total_is, total_is, b.if-total_count_to_index-total.false) in
          let fit : h.total < 2 ^ 64 = omega (arith, total_is, c.total.type_inv) in
          let inside : is_within t (running h i) h.total k ≡ true = ap₂ (λ r n. is_within t r n k) (sym candidate.total_is) (sym w.2) ∙ (sym b.is_within.ensures.value ∙ b.if-is_within.true) in
          let both = advances h t k i last step candidate.inside fit some below_total inside ahead_there in
          let next = b.advance.new.self in
          let rest : drop (k + 1) (quantile_picks h t) ≡ cond p.done [] (drop (ticks_yielded next.number p.closing) (quantile_picks h next.per_half)) =
          ap (λ (q : TickOf). drop q.number (quantile_picks h q.per_half)) (sym b.advance.ensures) ∙ (ap (λ x. drop (ticks_yielded next.number x) (quantile_picks h next.per_half)) (sym c.if-self-2.false) ∙ ap (λ d. cond d [] (drop (ticks_yielded next.number p.closing) (quantile_picks h next.per_half))) (sym c.if-self.false)) in
          let kept : TickStep h next.per_half next.number p.closing p.done (Some i) =
          subst (λ d. TickStep h next.per_half next.number p.closing d (Some i)) (sym c.if-self.false) (subst (λ x. TickStep h next.per_half next.number x false (Some i)) (sym c.if-self-2.false) (subst (λ (q : TickOf). TickStep h q.per_half q.number false false (Some i)) (sym b.advance.ensures) both.0)) in
          rw (b.self-is, c.new-2.ensures)
          ((w.0, kept, ap (λ (q : TickOf). q.total) b.advance.ensures ∙ w.2), picks_is ∙ (both.1 ∙ ap₂ (λ q ps. q ∷ ps) first_is rest))
    ]
