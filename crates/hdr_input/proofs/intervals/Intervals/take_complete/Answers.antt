use Rattle.std.proofs.Common.{◌≡◌, ◌<◌, ◌≤◌, ◌∷◌, ◌++◌, [], true, false, sym, subst, ◌∙◌, arith, rules}
use Rattle.std.specs.Vec.Iter.{into_iter_items}
use Rattle.std.proofs.lemmas.Bool.Decides.{nat_tests}
use Rattle.hdr_input.specs.TimeSlices.{begins_before}
use Rattle.hdr_input.proofs.TimeSlices.{parting-none, parting-complete, parting-stays, parting-next, parting-all, parting-order, parting-before, parting-rest}
use Rattle.hdr_input.proofs.intervals.Intervals.take_complete.Goals as goal

pub loop-slice-init : goal.loop-slice-init
loop-slice-init c =
    let old = c.args.self.now in
    let all = c.in_ok-slice-items.slice-items.items in
    let e = c.in_ok-slice-items.ensures in record {
      times = e.times;
      later = e.later;
      parts = parting-none old.latest old.intervals.items all _ _ _ c.new-complete.ensures.items e.rest c.into_iter-slice-iterator.ensures.into_iter_gives.0 e.all e.order old.is_latest;
    }

pub loop-slice-preserved-in-Continue-branch-2 : goal.loop-slice-preserved-in-Continue-branch-2
loop-slice-preserved-in-Continue-branch-2 c =
    let old = c.args.self.now in
    let slice = c.in-Some.slice in
    let complete = c.loop-slice.complete.items in
    let times = c.loop-slice.invariant.times in
    let pushed : c.push.new.self.items ≡ complete ++ slice ∷ [] = search rules in
    let below : slice.number < old.latest = omega (arith, times.0) in
    let is : begins_before old.latest slice ≡ true = grind (arith, nat_tests) in record {
      times = times;
      later = c.loop-slice.invariant.later;
      parts = parting-complete old.latest old.intervals.items complete c.loop-slice.self.intervals.items (into_iter_items c.loop-slice.slice-iterator) c.push.new.self.items (into_iter_items c.next.new.self) slice c.loop-slice.invariant.parts c.in-Some.ensures.steps.0 pushed is;
    }

pub push-requires-else-slice-self : goal.push-requires-else-slice-self
push-requires-else-slice-self c =
    let old = c.args.self.now in
    let next = parting-next old.latest old.intervals.items c.loop-slice.complete.items c.loop-slice.self.intervals.items (into_iter_items c.loop-slice.slice-iterator) (into_iter_items c.next.new.self) c.in-Some.slice c.loop-slice.invariant.parts c.in-Some.ensures.steps.0 in
    subst (λ n. c.in-Some.slice.number ≤ n) (sym c.loop-slice.invariant.times.0) next

pub loop-slice-preserved : goal.loop-slice-preserved
loop-slice-preserved c =
    let old = c.args.self.now in
    let slice = c.in-Some.slice in
    let times = c.loop-slice.invariant.times in
    let pushed = c.in_ok-push.ensures in
    let above : old.latest ≤ slice.number = omega (arith, times.0) in
    let is : begins_before old.latest slice ≡ false = grind (arith, nat_tests) in record {
      times = (pushed.times.0 ∙ times.0, pushed.times.1 ∙ times.1, pushed.times.2 ∙ times.2);
      later = pushed.later ∙ c.loop-slice.invariant.later;
      parts = parting-stays old.latest old.intervals.items c.loop-slice.complete.items c.loop-slice.self.intervals.items (into_iter_items c.loop-slice.slice-iterator) c.push-else-slice-self.new.self.intervals.items (into_iter_items c.next.new.self) slice c.loop-slice.invariant.parts c.in-Some.ensures.steps.0 pushed.held is;
    }

pub returns-clause-all : goal.returns-clause-all
returns-clause-all c =
    let old = c.args.self.now in
    parting-all old.latest old.intervals.items c.loop-slice.complete.items c.loop-slice.self.intervals.items (into_iter_items c.loop-slice.slice-iterator) c.loop-slice.invariant.parts (omega (arith, c.in-None.ensures.steps))

pub returns-clause-order : goal.returns-clause-order
returns-clause-order c =
    let old = c.args.self.now in
    parting-order old.latest old.intervals.items c.loop-slice.complete.items c.loop-slice.self.intervals.items (into_iter_items c.loop-slice.slice-iterator) c.loop-slice.invariant.parts (omega (arith, c.in-None.ensures.steps))

pub returns-clause-complete : goal.returns-clause-complete
returns-clause-complete c =
    let old = c.args.self.now in
    parting-before old.latest old.intervals.items c.loop-slice.complete.items c.loop-slice.self.intervals.items (into_iter_items c.loop-slice.slice-iterator) c.loop-slice.invariant.parts (omega (arith, c.in-None.ensures.steps))

pub returns-clause-rest : goal.returns-clause-rest
returns-clause-rest c =
    let old = c.args.self.now in
    parting-rest old.latest old.intervals.items c.loop-slice.complete.items c.loop-slice.self.intervals.items (into_iter_items c.loop-slice.slice-iterator) c.loop-slice.invariant.parts (omega (arith, c.in-None.ensures.steps))
