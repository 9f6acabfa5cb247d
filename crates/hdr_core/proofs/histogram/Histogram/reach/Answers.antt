use Rattle.std.proofs.Common.{◌∙◌, ap}
use Rattle.hdr_base.specs.Classes.{Resolution, reach_of}
use Rattle.hdr_core.specs.Shown.{plain_of}
use Rattle.hdr_model.specs.Plain.{Plain, reach}
use Rattle.hdr_core.proofs.histogram.Histogram.reach.Goals as goal

pub returns : goal.returns
unfolding reach
returns g c =
    let h = plain_of c.self.inside in
    c.reach.ensures.value ∙ ap (λ (s : Resolution). reach_of s h.high) c.self.invariant.scale ∙ ap (λ (p : Plain). reach p) c.self.view_is
