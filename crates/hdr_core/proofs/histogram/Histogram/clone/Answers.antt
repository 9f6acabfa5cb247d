use Rattle.std.proofs.Common.{◌∙◌, ap, get_or}
use Rattle.hdr_model.specs.Plain.{Plain}
use Rattle.hdr_core.proofs.histogram.Histogram.clone.Goals as goal

pub invariant_of-result : goal.invariant_of-result
invariant_of-result g c = rw (c.in-Ok.ensures, c.same.ensures) c.self.invariant

pub returns : goal.returns
returns g c = rw (c.in-Ok.ensures, c.same.ensures) c.self.view_is

pub copied-requires-clause-rest : goal.copied-requires-clause-rest
copied-requires-clause-rest g c = λ i le. ap (λ (p : Plain). get_or p.counts i 0) c.self.view_is ∙ c.used_bins.ensures.rest i le
