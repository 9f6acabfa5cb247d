use Rattle.std.proofs.Common.{◌∙◌, ◌++◌, ◌∷◌, ◌-◌, ◌^◌, [], arith, refl, ap, subst, sym, map, take_all}
use Rattle.std.proofs.lemmas.List.Sums.{fold_push}
use Rattle.hdr_model.specs.Merging.{after_add}
use Rattle.hdrhistogram.specs.FieldRead.{IsHeldIn}
use Rattle.hdr_logs.specs.Stored.{view_of_stored}
use Rattle.hdr_figures.specs.Figures.{no_peaks, peaks_with, ArePeaksOf}
use Rattle.hdr_figures.specs.Intervals.{AreHistogramsOf, sum_of}
use Rattle.hdr_figures.specs.declared.sums.Key.{Key}
use Rattle.hdr_figures.specs.Classes.{IsMarkedBySamples}
use Rattle.hdr_figures.proofs.AddedClasses.{marks-reset}
use Rattle.hdr_figures.proofs.Adding.{histograms_more, peaks_are}
use Rattle.hdr_figures.proofs.sums.Sums.add_point.Goals as goal

pub loop-key-preserved : goal.loop-key-preserved
loop-key-preserved c =
    let before = c.loop-key.invariant in
    let one = c.in_ok-add_interval.ensures.sum in
    let held = subst (λ (k : Key). IsHeldIn (2 ^ 64 - 1) (view_of_stored k.interval.now).field one.0) c.key-item.is one.1 in (
      before.0 ++ one.0 ∷ [],
      histograms_more (λ (k : Key). k.interval.now) c.args.keys.now c.loop-key.key-index c.key-item.result before.0 one.0 (omega arith) before.1 held,
      one.2 ∙ ap (λ s. after_add (2 ^ 64 - 1) s one.0) before.2 ∙ sym (fold_push (λ s h. after_add (2 ^ 64 - 1) s h) c.reset.new.self.histogram before.0 one.0),
      one.3 ∙ ap (λ p. peaks_with p one.0) before.3 ∙ sym (fold_push peaks_with no_peaks before.0 one.0),
      c.in_ok-add_interval.ensures.marks,
    )

pub loop-key-init : goal.loop-key-init
loop-key-init c = ([], refl, refl, c.new-self.ensures, subst IsMarkedBySamples (sym c.reset.ensures.histogram) (marks-reset c.args.self.now.point.histogram))

pub add_interval-requires : goal.add_interval-requires
add_interval-requires c = c.loop-key.invariant.4

pub returns : goal.returns
returns c =
    let before = c.loop-key.invariant in
    let whole = take_all c.loop-key.key-index c.args.keys.now (omega arith) in (
      before.0,
      subst (λ keys. AreHistogramsOf (map (λ (k : Key). k.interval.now) keys) before.0) whole before.1,
      before.2 ∙ ap (λ s. sum_of s before.0) c.reset.ensures.histogram,
      (c.len-count.ensures, subst (λ p. ArePeaksOf before.0 p) (sym before.3) (peaks_are before.0)),
    )
