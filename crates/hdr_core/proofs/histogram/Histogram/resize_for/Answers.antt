use Rattle.std.proofs.Common.{◌≡◌, ◌∙◌, ap, sym, inl, inr}
use Rattle.hdr_base.specs.Classes.{Resolution, reach_of}
use Rattle.hdr_model.specs.Plain.{Plain, resolution}
use Rattle.hdr_model.specs.Recording.{with_bins_to}
use Rattle.hdr_model.proofs.PlainKept.{widened-same, widened-more}
use Rattle.hdr_core.proofs.histogram.Histogram.resize_for.Goals as goal

pub returns-clause-ok : goal.returns-clause-ok
returns-clause-ok g c =
    let h = c.args.self.now in
    elim c.in_ok-resize_to.ensures.ok [
      | inl e ↦ e.1 ∙ sym (widened-same h c.args.value e.0)
      | inr e ↦ (
          let high : c.reach-high.result ≡ reach_of (resolution h) c.args.value =
          c.reach-high.ensures.value ∙ ap (λ (s : Resolution). reach_of s c.args.value) (c.self.invariant.scale ∙ ap (λ (p : Plain). resolution p) c.self.view_is) in
          e.1 ∙ ap (λ x. with_bins_to h x) high ∙ sym (widened-more h c.args.value e.0)
          )
    ]
