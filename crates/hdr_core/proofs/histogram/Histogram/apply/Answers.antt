use Rattle.std.proofs.Common.{◌∙◌, ◌++◌, [], ap, sym, subst, replicate}
use Rattle.hdr_model.specs.Plain.{Plain, resolution}
use Rattle.hdr_model.specs.Samples.{StandsFor, Fits}
use Rattle.hdr_model.specs.Recording.{clamp}
use Rattle.hdr_model.proofs.PlainBounds.{bounds, same-bounds, bounds-recorded, bounds-corrected, bounds-cleared, bounds-restarted, bounds-merged, bounds-merged_corrected}
use Rattle.hdr_model.proofs.PlainKept.{resolution-recorded}
use Rattle.hdr_model.proofs.RecordingClears.{resolution-cleared, resolution-restarted, high-cleared, high-restarted, high-clamped, clamped-is, stands-cleared, stands-restarted}
use Rattle.hdr_model.proofs.CorrectionByClass.{resolution-corrected}
use Rattle.hdr_core.proofs.CallsFacts.{either}
use Rattle.hdr_core.proofs.histogram.Histogram.apply.Goals as goal

pub returns-in-Record-clause-same_classes : goal.returns-in-Record-clause-same_classes
returns-in-Record-clause-same_classes g c = either _ c.record_n.result c.record_n.ensures.ok c.record_n.ensures.err
    (λ is. ap (λ (h : Plain). resolution h) is ∙ resolution-recorded _ _ _ _)
    (λ same. ap (λ (h : Plain). resolution h) same)

pub returns-in-Clamp-clause-same_classes : goal.returns-in-Clamp-clause-same_classes
returns-in-Clamp-clause-same_classes g c =
    ap (λ (h : Plain). resolution h) c.saturating_record_n.ensures.state ∙ resolution-recorded _ _ _ _

pub returns-in-Clamp-clause-samples : goal.returns-in-Clamp-clause-samples
returns-in-Clamp-clause-samples g c = λ s t stands to fits.
    let h = c.args.self.now in
    let v = c.in-Clamp.value in
    let n = g.T.Counter.number c.in-Clamp.count in
    let to = rw c.in-Clamp.is at to in
    let list = to.0 ∙ ap (λ k. s.samples ++ replicate n (clamp (resolution h) k v)) (sym stands.1) ∙ ap (λ x. s.samples ++ replicate n x) (sym (clamped-is h v)) in (
      subst (λ N. StandsFor c.saturating_record_n.new.self N) (sym list) (c.saturating_record_n.ensures.samples s.samples stands.0 (subst (λ N. Fits g.T.Counter.greatest (resolution h) N) list fits)),
      ap (λ (k : Plain). k.high) c.saturating_record_n.ensures.state ∙ high-clamped _ _ _ _ ∙ stands.1 ∙ sym to.1,
    )

pub returns-in-Correct-clause-same_classes : goal.returns-in-Correct-clause-same_classes
returns-in-Correct-clause-same_classes g c = either _ c.record_n_correct.result c.record_n_correct.ensures.ok c.record_n_correct.ensures.err
    (λ is. ap (λ (h : Plain). resolution h) is ∙ resolution-corrected g.T.Counter.greatest c.args.self.now c.in-Correct.value (g.T.Counter.number c.in-Correct.count) c.in-Correct.interval)
    (λ same. ap (λ (h : Plain). resolution h) same)

pub returns-in-Clear-clause-same_classes : goal.returns-in-Clear-clause-same_classes
returns-in-Clear-clause-same_classes g c = ap (λ (h : Plain). resolution h) c.clear.ensures ∙ resolution-cleared c.args.self.now

pub returns-in-Clear-clause-samples : goal.returns-in-Clear-clause-samples
returns-in-Clear-clause-samples g c = λ s t stands to fits.
    let h = c.args.self.now in
    let to = rw c.in-Clear.is at to in (
      subst (λ N. StandsFor c.clear.new.self N) (sym to.0) (subst (λ (k : Plain). StandsFor k []) (sym c.clear.ensures) (stands-cleared h)),
      ap (λ (k : Plain). k.high) c.clear.ensures ∙ high-cleared h ∙ stands.1 ∙ sym to.1,
    )

pub returns-in-Reset-clause-same_classes : goal.returns-in-Reset-clause-same_classes
returns-in-Reset-clause-same_classes g c = ap (λ (h : Plain). resolution h) c.reset.ensures ∙ resolution-restarted c.args.self.now

pub returns-in-Reset-clause-samples : goal.returns-in-Reset-clause-samples
returns-in-Reset-clause-samples g c = λ s t stands to fits.
    let h = c.args.self.now in
    let to = rw c.in-Reset.is at to in (
      subst (λ N. StandsFor c.reset.new.self N) (sym to.0) (subst (λ (k : Plain). StandsFor k []) (sym c.reset.ensures) (stands-restarted h)),
      ap (λ (k : Plain). k.high) c.reset.ensures ∙ high-restarted h ∙ stands.1 ∙ sym to.1,
    )

pub returns-in-Record-clause-same_bounds : goal.returns-in-Record-clause-same_bounds
returns-in-Record-clause-same_bounds g c = same-bounds _ c.args.self.now (either _ c.record_n.result c.record_n.ensures.ok c.record_n.ensures.err
    (λ is. ap (λ (h : Plain). bounds h) is ∙ bounds-recorded g.T.Counter.greatest c.args.self.now c.in-Record.value (g.T.Counter.number c.in-Record.count))
    (λ same. ap (λ (h : Plain). bounds h) same))

pub returns-in-Clamp-clause-same_bounds : goal.returns-in-Clamp-clause-same_bounds
returns-in-Clamp-clause-same_bounds g c = same-bounds _ c.args.self.now (ap (λ (h : Plain). bounds h) c.saturating_record_n.ensures.state ∙ bounds-recorded _ _ _ _)

pub returns-in-Correct-clause-same_bounds : goal.returns-in-Correct-clause-same_bounds
returns-in-Correct-clause-same_bounds g c = same-bounds _ c.args.self.now (either _ c.record_n_correct.result c.record_n_correct.ensures.ok c.record_n_correct.ensures.err
    (λ is. ap (λ (h : Plain). bounds h) is ∙ bounds-corrected g.T.Counter.greatest c.args.self.now c.in-Correct.value (g.T.Counter.number c.in-Correct.count) c.in-Correct.interval)
    (λ same. ap (λ (h : Plain). bounds h) same))

pub returns-in-Clear-clause-same_bounds : goal.returns-in-Clear-clause-same_bounds
returns-in-Clear-clause-same_bounds g c = same-bounds _ c.args.self.now (ap (λ (h : Plain). bounds h) c.clear.ensures ∙ bounds-cleared c.args.self.now)

pub returns-in-Reset-clause-same_bounds : goal.returns-in-Reset-clause-same_bounds
returns-in-Reset-clause-same_bounds g c = same-bounds _ c.args.self.now (ap (λ (h : Plain). bounds h) c.reset.ensures ∙ bounds-restarted c.args.self.now)

pub returns-in-Add-clause-same_bounds : goal.returns-in-Add-clause-same_bounds
returns-in-Add-clause-same_bounds g c = same-bounds _ c.args.self.now (either _ c.add.result c.add.ensures.ok c.add.ensures.err
    (λ is. ap (λ (h : Plain). bounds h) is ∙ bounds-merged g.T.Counter.greatest c.args.self.now c.in-Add.source.now)
    (λ same. ap (λ (h : Plain). bounds h) same))

pub returns-in-AddCorrect-clause-same_bounds : goal.returns-in-AddCorrect-clause-same_bounds
returns-in-AddCorrect-clause-same_bounds g c = same-bounds _ c.args.self.now (either _ c.add_correct.result c.add_correct.ensures.ok c.add_correct.ensures.err
    (λ is. ap (λ (h : Plain). bounds h) is ∙ bounds-merged_corrected g.T.Counter.greatest c.args.self.now c.in-AddCorrect.source.now c.in-AddCorrect.interval)
    (λ same. ap (λ (h : Plain). bounds h) same))
