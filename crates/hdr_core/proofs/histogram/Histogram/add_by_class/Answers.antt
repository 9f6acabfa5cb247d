use Rattle.std.proofs.Common.{◌≡◌, ◌∙◌, [], length, ap, sym, arith}
use Rattle.hdr_model.specs.Plain.{Plain, resolution}
use Rattle.hdr_model.specs.Recording.{after_records}
use Rattle.hdr_model.specs.Correction.{each_times, classes_held, down_to}
use Rattle.hdr_model.proofs.CorrectionFacts.{down_to-end}
use Rattle.hdr_model.proofs.CorrectionClasses.{held-le, held-none}
use Rattle.hdr_model.proofs.CorrectionByClass.{bins-few}
use Rattle.hdr_core.proofs.histogram.Histogram.add_by_class.Goals as goal

pub add_alone-next-requires-clause-scale : goal.add_alone-next-requires-clause-scale
add_alone-next-requires-clause-scale g c =
    c.self.invariant.scale ∙ ap (λ (p : Plain). resolution p) c.self.view_is ∙ sym c.loop-next.invariant.same_classes

pub add_alone-next-requires-clause-ticks_fit : goal.add_alone-next-requires-clause-ticks_fit
add_alone-next-requires-clause-ticks_fit g c =
    let h = c.args.self.now in
    rw (c.loop-next.invariant.same_classes, c.loop-next.invariant.same_bins)
    (omega (arith, c.requires.ticks_fit, c.loop-next.invariant.ticks, held-le (resolution h) (length h.counts) (down_to c.args.first c.args.interval), bins-few g.T.Counter.greatest h (rw c.self.view_is at c.self.invariant.plain)))

pub add_in_bucket-next-requires-clause-ticks_fit : goal.add_in_bucket-next-requires-clause-ticks_fit
add_in_bucket-next-requires-clause-ticks_fit g c =
    let h = c.args.self.now in
    rw (c.loop-next.invariant.same_classes, c.loop-next.invariant.same_bins)
    (omega (arith, c.requires.ticks_fit, c.loop-next.invariant.ticks, held-le (resolution h) (length h.counts) (down_to c.args.first c.args.interval), bins-few g.T.Counter.greatest h (rw c.self.view_is at c.self.invariant.plain)))

pub returns-clause-state : goal.returns-clause-state
returns-clause-state g c =
    let greatest = g.T.Counter.greatest in
    let n = c.args.count in
    let end : down_to c.loop-next.next c.args.interval ≡ [] = down_to-end c.loop-next.next c.args.interval (omega arith) in
    sym (ap (λ ys. after_records greatest c.loop-next.self (each_times n ys)) end) ∙ c.loop-next.invariant.state

pub returns-clause-ticks : goal.returns-clause-ticks
returns-clause-ticks g c =
    let h = c.args.self.now in
    let end : down_to c.loop-next.next c.args.interval ≡ [] = down_to-end c.loop-next.next c.args.interval (omega arith) in
    let none : classes_held (resolution h) (length h.counts) (down_to c.loop-next.next c.args.interval) ≡ 0 =
    ap (λ ys. classes_held (resolution h) (length h.counts) ys) end ∙ held-none (resolution h) (length h.counts) in
    omega (arith, c.loop-next.invariant.ticks)
