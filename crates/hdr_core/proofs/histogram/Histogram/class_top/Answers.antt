use Rattle.std.proofs.Common.{◌∙◌, ap}
use Rattle.hdr_base.specs.Classes.{Resolution, top_of}
use Rattle.hdr_model.specs.Plain.{Plain, resolution}
use Rattle.hdr_core.proofs.histogram.Histogram.class_top.Goals as goal

pub returns : goal.returns
returns g c =
    let h = c.args.self.now in
    c.top.ensures ∙ ap (λ (s : Resolution). top_of s c.class_value.result) (c.self.invariant.scale ∙ ap (λ (p : Plain). resolution p) c.self.view_is)
    ∙ ap (λ v. top_of (resolution h) v) c.class_value.ensures
