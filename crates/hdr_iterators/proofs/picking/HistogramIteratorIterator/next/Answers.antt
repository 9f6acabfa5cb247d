use Rattle.std.proofs.Common.{◌≡◌, ◌+◌, ◌-◌, ◌^◌, ◌<◌, [], min, sym, ap, ◌∙◌, arith}
use Rattle.hdr_iterators.specs.Seen.{bins_in}
use Rattle.hdr_iterators.specs.Picks.{NoneBefore, bin_after, items_from}
use Rattle.hdr_iterators.proofs.PicksSteps.{NoneBefore-end, InStep-passed}
use Rattle.hdr_iterators.proofs.picking.HistogramIteratorIterator.next.Goals as goal

pub invariant_of-self-then-next-len : goal.invariant_of-self-then-next-len
invariant_of-self-then-next-len g c =
    let P = g.P.PickyIterator in
    let s = c.loop-self.self-inside in
    let h = s.bins in
    let inv = c.loop-self.invariant in
    let kept = c.has_ended.ensures.goes_on h s.last_picked_index inv.0 in
    let ahead : NoneBefore s.current_index (P.picks c.has_ended.new.picker h) = rw kept.1 inv.1.ahead in
    let picked = c.in_default.ensures h s.last_picked_index kept.0 inv.1.candidate ahead in
    let same : P.picks c.pick.new.self h ≡ P.picks s.picker h = picked.1 ∙ kept.1 in
    let none : NoneBefore c.next_candidate-next.result (P.picks c.pick.new.self h) = c.next_candidate-next.ensures.declined (P.picks c.pick.new.self h) (λ t. rw same (inv.7 t)) (rw picked.1 picked.2) in
    let e : c.next_candidate-next.result ≡ bins_in h = c.if-next-len.true ∙ inv.6 in
    let empty : P.picks s.picker h ≡ [] = NoneBefore-end (bins_in h) (P.picks s.picker h) (rw (e, same) at none) inv.1.within in
    (picked.0, rw same inv.1, λ t. same ∙ empty, λ t. rw same (inv.7 t))

pub returns-then-next-len-clause-steps : goal.returns-then-next-len-clause-steps
returns-then-next-len-clause-steps g c =
    let P = g.P.PickyIterator in
    let s = c.loop-self.self-inside in
    let h = s.bins in
    let inv = c.loop-self.invariant in
    let kept = c.has_ended.ensures.goes_on h s.last_picked_index inv.0 in
    let ahead : NoneBefore s.current_index (P.picks c.has_ended.new.picker h) = rw kept.1 inv.1.ahead in
    let picked = c.in_default.ensures h s.last_picked_index kept.0 inv.1.candidate ahead in
    let same : P.picks c.pick.new.self h ≡ P.picks s.picker h = picked.1 ∙ kept.1 in
    let none : NoneBefore c.next_candidate-next.result (P.picks c.pick.new.self h) = c.next_candidate-next.ensures.declined (P.picks c.pick.new.self h) (λ t. rw same (inv.7 t)) (rw picked.1 picked.2) in
    let e : c.next_candidate-next.result ≡ bins_in h = c.if-next-len.true ∙ inv.6 in
    let empty : P.picks s.picker h ≡ [] = NoneBefore-end (bins_in h) (P.picks s.picker h) (rw (e, same) at none) inv.1.within in
    (sym c.self.view_is ∙ ap (items_from c.self.inside.bins (bin_after c.self.inside.last_picked_index)) (sym inv.3 ∙ empty), ap (items_from h (bin_after s.last_picked_index)) (same ∙ empty))

pub loop-self-preserved : goal.loop-self-preserved
loop-self-preserved g c =
    let P = g.P.PickyIterator in
    let s = c.loop-self.self-inside in
    let h = s.bins in
    let inv = c.loop-self.invariant in
    let kept = c.has_ended.ensures.goes_on h s.last_picked_index inv.0 in
    let ahead : NoneBefore s.current_index (P.picks c.has_ended.new.picker h) = rw kept.1 inv.1.ahead in
    let picked = c.in_default.ensures h s.last_picked_index kept.0 inv.1.candidate ahead in
    let same : P.picks c.pick.new.self h ≡ P.picks s.picker h = picked.1 ∙ kept.1 in
    let next_is = c.next_candidate-next.result in
    let none : NoneBefore next_is (P.picks c.pick.new.self h) = c.next_candidate-next.ensures.declined (P.picks c.pick.new.self h) (λ t. rw same (inv.7 t)) (rw picked.1 picked.2) in
    let lt : next_is < bins_in h = omega (arith, c.next_candidate-next.ensures.within, c.if-next-len.false, inv.6) in
    let count = c.as_u64-count.ensures.value in
    let next = InStep-passed h (P.picks s.picker h) s.current_index next_is s.total_count_to_index s.count_since_last_iteration (g.T.Counter.number s.count_at_index) (g.T.Counter.number c.count-self-inside.result)
    c.saturating_add-self-inside.result c.saturating_add-self-inside-in-loop-self.result s.last_picked_index inv.1 c.next_candidate-next.ensures.onward lt c.next_candidate-next.ensures.empty (rw same at none) c.count-self-inside.ensures
    (c.saturating_add-self-inside.ensures ∙ ap (λ q. min (s.total_count_to_index + q) (2 ^ 64 - 1)) count)
    (c.saturating_add-self-inside-in-loop-self.ensures ∙ ap (λ q. min (s.count_since_last_iteration + q) (2 ^ 64 - 1)) count) in
    (picked.0, rw same next, λ t. same ∙ inv.2 t, same ∙ inv.3, inv.4, inv.5, inv.6, λ t. rw same (inv.7 t))
