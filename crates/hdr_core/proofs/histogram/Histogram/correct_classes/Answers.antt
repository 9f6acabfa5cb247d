use Rattle.std.proofs.Common.{◌≡◌, ◌∙◌, ◌+◌, ◌<◌, ◌≤◌, ◌∷◌, refl, ap, arith, length, get_or}
use Rattle.std.specs.List.{All}
use Rattle.std.proofs.lemmas.List.{take_all}
use Rattle.std.proofs.lemmas.List.Elements.{All-cons}
use Rattle.hdr_base.specs.Classes.{top_of, value_of}
use Rattle.hdr_model.specs.Plain.{Plain, resolution, reach}
use Rattle.hdr_model.specs.Recording.{Times, after_records}
use Rattle.hdr_model.specs.Correction.{missing, each_times}
use Rattle.hdr_model.specs.Merging.{corrections_from}
use Rattle.hdr_model.proofs.CorrectionFacts.{missing-within}
use Rattle.hdr_model.proofs.CorrectionByClass.{each-within}
use Rattle.hdr_model.proofs.MergingStands.{reach-each}
use Rattle.hdr_model.proofs.MergingCorrects.{class-inside, corrected-more-none, corrected-next}
use Rattle.hdr_model.proofs.MergingKeeps.{past-zeros}
use Rattle.hdr_core.proofs.histogram.Histogram.correct_classes.Given as given
use Rattle.hdr_core.proofs.histogram.Histogram.correct_classes.Goals as goal
use Rattle.hdr_core.proofs.histogram.Histogram.correct_classes.Goals.{In-loop-bin}

-- the value that is recorded has a bin
fits : (g : given.Over) (c : In-loop-bin g) → top_of (resolution c.args.source.now) (value_of (resolution c.args.source.now) c.loop-bin.bin) ≤ reach c.loop-bin.self
fits g c =
    let pos = c.loop-bin.invariant.filled (omega (arith, c.loop-bin-test.true, c.distinct_values.ensures.value)) in
    omega (arith, class-inside c.args.source.now c.loop-bin.bin pos, c.requires, c.loop-bin.invariant.same_reach)

pub correct_inside-requires : goal.correct_inside-requires
correct_inside-requires g c = rw c.class_top.ensures (fits g (goal.at.correct_inside-requires g c).In-loop-bin)

pub loop-bin-init : goal.loop-bin-init
loop-bin-init g c =
    let s = c.args.source.now in
    let t = c.args.interval in
    let on = c.next_filled-bin.ensures in
    record {
      filled = on.filled;
      made = rw (past-zeros (λ l. corrections_from (resolution s) t 0 l) (corrected-more-none (resolution s) t 0) s.counts 0 c.next_filled-bin.result on.onward on.empty) refl;
      same_reach = refl;
    }

pub loop-bin-preserved : goal.loop-bin-preserved
loop-bin-preserved g c =
    let greatest = g.T.Counter.greatest in
    let k = c.loop-bin.self in
    let s = c.args.source.now in
    let i = c.loop-bin.bin in
    let t = c.args.interval in
    let v = top_of (resolution s) (value_of (resolution s) i) in
    let on = c.next_filled-bin-in-loop-bin.ensures in
    let le = fits g (goal.at.loop-bin-preserved g c).In-loop-bin in
    let inside : i < length s.counts = omega (arith, c.loop-bin-test.true, c.distinct_values.ensures.value) in
    let n : c.as_u64-count.result ≡ get_or s.counts i 0 = c.as_u64-count.ensures.value ∙ c.get.ensures ∙ ap (λ (p : Plain). get_or p.counts i 0) c.source.view_is in
    let ts = each_times (get_or s.counts i 0) (v ∷ missing v t) in
    let new =
    c.correct_inside.ensures ∙ ap (λ x. after_records greatest k (each_times c.as_u64-count.result (x ∷ missing x t))) c.class_top.ensures ∙ ap (λ m. after_records greatest k (each_times m (v ∷ missing v t))) n in
    let values : All (λ (t : Times). t.value ≤ reach k) ts =
    each-within (reach k) (get_or s.counts i 0) (v ∷ missing v t) (All-cons (λ x. x ≤ reach k) v (missing v t) le (missing-within v t (reach k) le)) in
    record {
      filled = on.filled;
      made = rw (new, c.loop-bin.invariant.made, past-zeros (λ l. corrections_from (resolution s) t 0 l) (corrected-more-none (resolution s) t 0) s.counts (i + 1) c.next_filled-bin-in-loop-bin.result on.onward on.empty)
          (corrected-next greatest c.args.self.now (resolution s) t s.counts i inside (c.loop-bin.invariant.filled inside));
      same_reach = rw new (reach-each greatest k ts values ∙ c.loop-bin.invariant.same_reach);
    }

pub returns-clause-made : goal.returns-clause-made
returns-clause-made g c =
    let s = c.args.source.now in
    rw (take_all c.loop-bin.bin s.counts (omega (arith, c.loop-bin-test.false, c.distinct_values.ensures.value))) at c.loop-bin.invariant.made
