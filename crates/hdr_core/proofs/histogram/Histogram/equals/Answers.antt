use Rattle.std.proofs.Common.{◌∙◌, ap, get_or}
use Rattle.hdr_model.specs.Plain.{Plain}
use Rattle.hdr_core.proofs.histogram.Histogram.equals.Goals as goal

pub same_numbers-requires-clause-left : goal.same_numbers-requires-clause-left
same_numbers-requires-clause-left g c = λ i le. ap (λ (p : Plain). get_or p.counts i 0) c.self.view_is ∙ c.used_bins.ensures.rest i le

pub same_numbers-requires-clause-right : goal.same_numbers-requires-clause-right
same_numbers-requires-clause-right g c = λ i le. ap (λ (p : Plain). get_or p.counts i 0) c.other.view_is ∙ c.used_bins-then-min_nz.ensures.rest i le
