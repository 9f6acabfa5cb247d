use Rattle.std.proofs.Common.{◌≡◌, ◌∙◌, [], length, ap, sym, arith}
use Rattle.hdr_model.specs.Plain.{Plain, resolution}
use Rattle.hdr_model.specs.Recording.{after_records}
use Rattle.hdr_model.specs.Correction.{each_times, classes_held, down_to}
use Rattle.hdr_model.proofs.CorrectionFacts.{down_to-end}
use Rattle.hdr_model.proofs.CorrectionClasses.{held-le, held-none}
use Rattle.hdr_model.proofs.CorrectionByClass.{bins-few}
use Rattle.hdr_core.proofs.CorrectionAlone.{narrower}
use Rattle.hdr_core.proofs.histogram.Histogram.add_each.Goals as goal

pub add_alone-value-requires-clause-scale : goal.add_alone-value-requires-clause-scale
add_alone-value-requires-clause-scale g c =
    c.self.invariant.scale ∙ ap (λ (p : Plain). resolution p) c.self.view_is ∙ sym c.loop-value.invariant.same_classes

pub add_alone-value-requires-clause-ticks_fit : goal.add_alone-value-requires-clause-ticks_fit
add_alone-value-requires-clause-ticks_fit g c =
    let h = c.args.self.now in
    rw (c.loop-value.invariant.same_classes, c.loop-value.invariant.same_bins)
    (omega (arith, c.requires.ticks_fit, c.loop-value.invariant.ticks, held-le (resolution h) (length h.counts) (down_to c.args.first c.args.interval), bins-few g.T.Counter.greatest h (rw c.self.view_is at c.self.invariant.plain)))

pub add_alone-value-requires-clause-alone : goal.add_alone-value-requires-clause-alone
add_alone-value-requires-clause-alone g c = rw c.loop-value.invariant.same_classes c.loop-value.invariant.alone

pub loop-value-preserved : goal.loop-value-preserved
loop-value-preserved g c =
    let inv = c.loop-value.invariant in
    let e = c.add_alone-value.ensures in
    record {
      state = e.state ∙ inv.state;
      ticks = rw (inv.same_classes, inv.same_bins) at e.ticks ∙ inv.ticks;
      same_classes = e.same_classes ∙ inv.same_classes;
      same_bins = e.same_bins ∙ inv.same_bins;
      same_reach = e.same_reach ∙ inv.same_reach;
      within = omega (arith, e.next, e.same_reach, inv.within);
      alone = omega (arith, inv.alone, narrower (resolution c.args.self.now) c.add_alone-value.result c.loop-value.value (omega (arith, e.next)));
    }

pub returns-clause-state : goal.returns-clause-state
returns-clause-state g c =
    let greatest = g.T.Counter.greatest in
    let n = c.args.count in
    let end : down_to c.loop-value.value c.args.interval ≡ [] = down_to-end c.loop-value.value c.args.interval (omega arith) in
    sym (ap (λ ys. after_records greatest c.loop-value.self (each_times n ys)) end) ∙ c.loop-value.invariant.state

pub returns-clause-ticks : goal.returns-clause-ticks
returns-clause-ticks g c =
    let h = c.args.self.now in
    let end : down_to c.loop-value.value c.args.interval ≡ [] = down_to-end c.loop-value.value c.args.interval (omega arith) in
    let none : classes_held (resolution h) (length h.counts) (down_to c.loop-value.value c.args.interval) ≡ 0 =
    ap (λ ys. classes_held (resolution h) (length h.counts) ys) end ∙ held-none (resolution h) (length h.counts) in
    omega (arith, c.loop-value.invariant.ticks)
