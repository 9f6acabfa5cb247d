use Rattle.std.proofs.Common.{◌≡◌, ◌∙◌, ◌≤◌, ap, sym, subst}
use Rattle.hdr_model.specs.Plain.{Plain, resolution, reach}
use Rattle.hdr_model.specs.Recording.{after_records, after_reset, with_bins_for}
use Rattle.hdr_model.specs.Merging.{corrections_from, highest_top, after_add_correct}
use Rattle.hdr_model.proofs.MergingCorrects.{widened-holds, restarted-widened}
use Rattle.hdr_core.proofs.histogram.Histogram.set_to_corrected.Goals as goal

pub correct_classes-requires : goal.correct_classes-requires
correct_classes-requires g c =
    let h = c.args.self.now in
    let m = highest_top c.args.source.now in
    let new : c.resize_for.new.self ≡ with_bins_for h m = c.in-Ok.ensures.ok ∙ ap (λ x. with_bins_for h x) c.highest_top.ensures in
    let left : c.reset.new.self ≡ with_bins_for (after_reset h) m = c.reset.ensures ∙ ap (λ (w : Plain). after_reset w) new ∙ restarted-widened h m in
    subst (λ w. m ≤ reach w) (sym left) (widened-holds (after_reset h) m)

pub returns-in-Ok-clause-ok : goal.returns-in-Ok-clause-ok
unfolding after_add_correct
returns-in-Ok-clause-ok g c =
    let h = c.args.self.now in
    let s = c.args.source.now in
    let m = highest_top s in
    let new : c.resize_for.new.self ≡ with_bins_for h m = c.in-Ok.ensures.ok ∙ ap (λ x. with_bins_for h x) c.highest_top.ensures in
    let left : c.reset.new.self ≡ with_bins_for (after_reset h) m = c.reset.ensures ∙ ap (λ (w : Plain). after_reset w) new ∙ restarted-widened h m in
    c.correct_classes.ensures.made ∙ ap (λ w. after_records g.T.Counter.greatest w (corrections_from (resolution s) c.args.interval 0 s.counts)) left
