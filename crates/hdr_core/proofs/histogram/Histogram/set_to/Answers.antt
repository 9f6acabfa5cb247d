use Rattle.std.proofs.Common.{◌≡◌, ◌∙◌, ◌≤◌, ap, sym, subst}
use Rattle.hdr_model.specs.Plain.{Plain, reach, max_of}
use Rattle.hdr_model.specs.Recording.{after_reset}
use Rattle.hdr_model.specs.Merging.{after_add_within, with_room}
use Rattle.hdr_model.proofs.MergingKeeps.{merged-none, merged-some, with_room-reach}
use Rattle.hdr_model.proofs.RecordingClears.{restarted-room}
use Rattle.hdr_core.proofs.histogram.Histogram.set_to.Goals as goal

pub returns-then-source-eq0-clause-ok : goal.returns-then-source-eq0-clause-ok
returns-then-source-eq0-clause-ok g c =
    c.reset.ensures ∙ sym (merged-none g.T.Counter.greatest (after_reset c.args.self.now) c.args.source.now (sym (ap (λ (p : Plain). p.total) c.source.view_is) ∙ c.if-source-eq0.true))

pub take_in-requires : goal.take_in-requires
take_in-requires g c =
    let h = c.args.self.now in
    let m = max_of c.args.source.now in
    let new : c.resize_for_add.new.self ≡ with_room h m = c.in-Ok.ensures.ok ∙ ap (λ x. with_room h x) c.max.ensures.value in
    let left : c.reset-in-Ok.new.self ≡ with_room (after_reset h) m = c.reset-in-Ok.ensures ∙ ap (λ (w : Plain). after_reset w) new ∙ restarted-room h m in
    subst (λ w. m ≤ reach w) (sym left) (with_room-reach (after_reset h) m)

pub returns-in-Ok-clause-ok : goal.returns-in-Ok-clause-ok
returns-in-Ok-clause-ok g c =
    let h = c.args.self.now in
    let s = c.args.source.now in
    let m = max_of s in
    let greatest = g.T.Counter.greatest in
    let new : c.resize_for_add.new.self ≡ with_room h m = c.in-Ok.ensures.ok ∙ ap (λ x. with_room h x) c.max.ensures.value in
    let left : c.reset-in-Ok.new.self ≡ with_room (after_reset h) m = c.reset-in-Ok.ensures ∙ ap (λ (w : Plain). after_reset w) new ∙ restarted-room h m in
    c.take_in.ensures ∙ ap (λ w. after_add_within greatest w s) left
    ∙ sym (merged-some greatest (after_reset h) s (λ e. c.if-source-eq0.false (ap (λ (p : Plain). p.total) c.source.view_is ∙ e)))
