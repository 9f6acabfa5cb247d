use Rattle.std.proofs.Common.{◌≡◌, ◌∙◌, ◌≤◌, ◌++◌, ap, sym, subst, arith}
use Rattle.hdr_model.specs.Plain.{Plain, resolution, reach}
use Rattle.hdr_model.specs.Recording.{after_records, with_bins_for}
use Rattle.hdr_model.specs.Merging.{corrections_from, corrected_samples, highest_top, after_add_correct}
use Rattle.hdr_model.specs.Samples.{StandsFor}
use Rattle.hdr_model.proofs.MergingCorrects.{widened-holds, StandsFor-merged_corrected, merged_corrected-high, resolution-merged_corrected}
use Rattle.hdr_core.proofs.histogram.Histogram.add_correct_from.Goals as goal

pub correct_classes-requires : goal.correct_classes-requires
correct_classes-requires g c =
    let new : c.resize_for.new.self ≡ with_bins_for c.args.self.now (highest_top c.args.source.now) = c.in_ok-resize_for.ensures.ok ∙ ap (λ x. with_bins_for c.args.self.now x) c.highest_top.ensures in
    subst (λ w. highest_top c.args.source.now ≤ reach w) (sym new) (widened-holds c.args.self.now (highest_top c.args.source.now))

pub returns-clause-ok : goal.returns-clause-ok
unfolding after_add_correct
returns-clause-ok g c =
    let s = c.args.source.now in
    let new : c.resize_for.new.self ≡ with_bins_for c.args.self.now (highest_top s) = c.in_ok-resize_for.ensures.ok ∙ ap (λ x. with_bins_for c.args.self.now x) c.highest_top.ensures in
    c.correct_classes.ensures.made ∙ ap (λ w. after_records g.T.Counter.greatest w (corrections_from (resolution s) c.args.interval 0 s.counts)) new

pub returns-clause-samples : goal.returns-clause-samples
returns-clause-samples g c = λ L source S stands fits.
    let s = c.args.source.now in
    subst (λ w. StandsFor w (S ++ corrected_samples (resolution s) c.args.interval L)) (sym (returns-clause-ok g c))
    (StandsFor-merged_corrected g.T.Counter.greatest g.F.Counter.greatest c.args.self.now s c.args.interval S L g.met.T.Counter.one_fits c.resize_for.ensures.plain c.correct_classes.ensures.source
    (omega (arith, c.highest_top.ensures, c.highest_top.type_inv)) stands source fits)

pub returns-clause-same_classes : goal.returns-clause-same_classes
returns-clause-same_classes g c =
    ap (λ (p : Plain). resolution p) (returns-clause-ok g c) ∙ resolution-merged_corrected g.T.Counter.greatest c.args.self.now c.args.source.now c.args.interval

pub returns-clause-high : goal.returns-clause-high
returns-clause-high g c =
    ap (λ (p : Plain). p.high) (returns-clause-ok g c) ∙ merged_corrected-high g.T.Counter.greatest c.args.self.now c.args.source.now c.args.interval
