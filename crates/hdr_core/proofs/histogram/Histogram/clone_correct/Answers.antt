use Rattle.std.proofs.Common.{◌∙◌, ◌≤◌, ap, sym, subst}
use Rattle.hdr_model.specs.Plain.{Plain, resolution, reach, empty_plain}
use Rattle.hdr_model.specs.Recording.{after_records}
use Rattle.hdr_model.specs.Merging.{highest_top, corrections_from, after_add_correct}
use Rattle.hdr_model.proofs.PlainKept.{widened-same}
use Rattle.hdr_model.proofs.MergingCopies.{highest-in, reach-empty}
use Rattle.hdr_core.proofs.histogram.Histogram.clone_correct.Goals as goal

pub correct_classes-requires : goal.correct_classes-requires
correct_classes-requires g c =
    let h = c.args.self.now in
    subst (λ (w : Plain). highest_top h ≤ reach w) (sym c.in_ok-copy.ensures.made) (reach-empty h (highest_top h) (highest-in g.T.Counter.greatest h c.new_from.ensures.source))

pub returns : goal.returns
unfolding after_add_correct
returns g c =
    let h = c.args.self.now in
    let e = empty_plain h.low h.high h.sigfig h.auto_resize in
    let inside : highest_top h ≤ reach e = reach-empty h (highest_top h) (highest-in g.T.Counter.greatest h c.new_from.ensures.source) in
    let ts = corrections_from (resolution h) c.args.interval 0 h.counts in
    c.correct_classes.ensures.made ∙ ap (λ (w : Plain). after_records g.T.Counter.greatest w ts) (c.in_ok-copy.ensures.made ∙ sym (widened-same e (highest_top h) inside))
