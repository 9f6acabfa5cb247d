use Rattle.std.proofs.Common.{◌≡◌, ◌∙◌, ◌+◌, ◌<◌, ◌≤◌, refl, [], ap, sym, arith, length, get_or, append-nil}
use Rattle.std.proofs.lemmas.List.{take_all}
use Rattle.hdr_base.specs.Classes.{value_of}
use Rattle.hdr_base.proofs.ClassesFiner.{bin-value_of}
use Rattle.hdr_model.specs.Plain.{Plain, resolution, reach}
use Rattle.hdr_model.specs.Recording.{after_records}
use Rattle.hdr_model.specs.Merging.{classes_from, top_class}
use Rattle.hdr_model.proofs.PlainKept.{resolution-digits}
use Rattle.hdr_model.proofs.MergingKeeps.{number-le-max, value-le-max, mark-in, classes-more-none, past-zeros, classes-next, classes-end, reach-recorded}
use Rattle.hdr_core.proofs.UsedBins.{no-top}
use Rattle.hdr_core.proofs.histogram.Histogram.record_classes.Given as given
use Rattle.hdr_core.proofs.histogram.Histogram.record_classes.Goals as goal
use Rattle.hdr_core.proofs.histogram.Histogram.record_classes.Goals.{In-loop-bin, After-top}

-- the value that is recorded has a bin
fits : (g : given.Over) (c : In-loop-bin g) → value_of (resolution c.args.source.now) c.loop-bin.bin ≤ reach c.loop-bin.self
fits g c =
    let s = c.args.source.now in
    let i = c.loop-bin.bin in
    let q = c.distinct_values.ensures.plain in
    let pos = c.loop-bin.invariant.filled (omega (arith, c.loop-bin-test.true, c.distinct_values.ensures.value)) in
    omega (arith, number-le-max g.F.Counter.greatest s i (value_of (resolution s) i) q pos (bin-value_of (resolution s) i (resolution-digits g.F.Counter.greatest s q)), c.requires, c.loop-bin.invariant.same_reach)

pub record_inside-requires : goal.record_inside-requires
record_inside-requires g c = rw c.class_value.ensures (fits g (goal.at.record_inside-requires g c).In-loop-bin)

pub loop-bin-init : goal.loop-bin-init
loop-bin-init g c =
    let s = c.args.source.now in
    let on = c.next_filled-bin.ensures in
    record {
      filled = on.filled;
      made = rw (past-zeros (λ l. classes_from (resolution s) 0 l) (classes-more-none (resolution s) 0) s.counts 0 c.next_filled-bin.result on.onward on.empty) refl;
      same_reach = refl;
    }

pub loop-bin-preserved : goal.loop-bin-preserved
loop-bin-preserved g c =
    let greatest = g.T.Counter.greatest in
    let h = c.args.self.now in
    let s = c.args.source.now in
    let i = c.loop-bin.bin in
    let on = c.next_filled-bin-in-loop-bin.ensures in
    let inside : i < length s.counts = omega (arith, c.loop-bin-test.true, c.distinct_values.ensures.value) in
    let n : c.as_u64.result ≡ get_or s.counts i 0 = c.as_u64.ensures.value ∙ c.get.ensures ∙ ap (λ (p : Plain). get_or p.counts i 0) c.source.view_is in
    record {
      filled = on.filled;
      made = rw (c.record_inside.ensures, c.class_value.ensures, n, c.loop-bin.invariant.made, past-zeros (λ l. classes_from (resolution s) 0 l) (classes-more-none (resolution s) 0) s.counts (i + 1) c.next_filled-bin-in-loop-bin.result on.onward on.empty)
          (classes-next greatest h (resolution s) s.counts i inside (c.loop-bin.invariant.filled inside));
      same_reach = rw (c.record_inside.ensures, c.class_value.ensures) (reach-recorded greatest c.loop-bin.self (value_of (resolution s) i) c.as_u64.result (fits g (goal.at.loop-bin-preserved g c).In-loop-bin) ∙ c.loop-bin.invariant.same_reach);
    }

pub class_value-requires-in-Some : goal.class_value-requires-in-Some
class_value-requires-in-Some g c =
    mark-in g.F.Counter.greatest c.args.source.now c.in-Some.bin c.distinct_values.ensures.plain (sym (ap (λ (p : Plain). p.top_mark) c.source.view_is) ∙ sym c.top.ensures ∙ c.in-Some.is)

pub record_inside-requires-in-Some : goal.record_inside-requires-in-Some
record_inside-requires-in-Some g c =
    omega (arith, c.class_value-in-Some.ensures, value-le-max c.args.source.now c.in-Some.bin (sym (ap (λ (p : Plain). p.top_mark) c.source.view_is) ∙ sym c.top.ensures ∙ c.in-Some.is), c.requires, c.loop-bin.invariant.same_reach)

-- after the loop each class is recorded
all : (g : given.Over) (c : After-top g) → c.loop-bin.self ≡ after_records g.T.Counter.greatest c.args.self.now (classes_from (resolution c.args.source.now) 0 c.args.source.now.counts)
all g c = rw (take_all c.loop-bin.bin c.args.source.now.counts (omega (arith, c.loop-bin-test.false, c.distinct_values.ensures.value))) at c.loop-bin.invariant.made

pub returns-in-Some : goal.returns-in-Some
returns-in-Some g c =
    let s = c.args.source.now in
    rw (c.record_inside-in-Some.ensures, c.class_value-in-Some.ensures, all g (goal.at.returns-in-Some g c).After-top)
    (classes-end g.T.Counter.greatest c.args.self.now (resolution s) s.counts s.top_mark c.in-Some.bin (sym (ap (λ (p : Plain). p.top_mark) c.source.view_is) ∙ sym c.top.ensures ∙ c.in-Some.is))

pub returns-in_default : goal.returns-in_default
returns-in_default g c =
    let s = c.args.source.now in
    let top : top_class (resolution s) s.top_mark ≡ [] = no-top (resolution s) s.top_mark (λ i e. c.in_default.not-Some i (c.top.ensures ∙ ap (λ (p : Plain). p.top_mark) c.source.view_is ∙ e)) in
    rw (top, append-nil (classes_from (resolution s) 0 s.counts)) (all g (goal.at.returns-in_default g c).After-top)
