use Rattle.std.proofs.Common.{◌∙◌, length, ap}
use Rattle.hdr_model.specs.Plain.{Plain}
use Rattle.hdr_model.proofs.PlainBins.{blocks-of}
use Rattle.hdr_core.proofs.histogram.Histogram.distinct_values.Goals as goal

pub returns-clause-blocks : goal.returns-clause-blocks
returns-clause-blocks g c =
    c.len.ensures.value ∙ ap (λ (p : Plain). length p.counts) c.self.view_is ∙ blocks-of g.T.Counter.greatest c.args.self.now (rw c.self.view_is at c.self.invariant.plain)
