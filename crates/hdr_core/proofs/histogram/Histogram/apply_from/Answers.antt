use Rattle.std.proofs.Common.{◌∙◌, ap}
use Rattle.hdr_model.specs.Plain.{Plain}
use Rattle.hdr_model.proofs.PlainBounds.{bounds, same-bounds, bounds-merged, bounds-merged_corrected}
use Rattle.hdr_core.proofs.CallsFacts.{either}
use Rattle.hdr_core.proofs.histogram.Histogram.apply_from.Goals as goal

pub returns-in-AddFrom-clause-same_bounds : goal.returns-in-AddFrom-clause-same_bounds
returns-in-AddFrom-clause-same_bounds g c = same-bounds _ c.args.self.now (either _ c.add_from.result c.add_from.ensures.ok c.add_from.ensures.err
    (λ is. ap (λ (h : Plain). bounds h) is ∙ bounds-merged g.T.Counter.greatest c.args.self.now c.in-AddFrom.source.now)
    (λ same. ap (λ (h : Plain). bounds h) same))

pub returns-in-AddCorrectFrom-clause-same_bounds : goal.returns-in-AddCorrectFrom-clause-same_bounds
returns-in-AddCorrectFrom-clause-same_bounds g c = same-bounds _ c.args.self.now (either _ c.add_correct_from.result c.add_correct_from.ensures.ok c.add_correct_from.ensures.err
    (λ is. ap (λ (h : Plain). bounds h) is ∙ bounds-merged_corrected g.T.Counter.greatest c.args.self.now c.in-AddCorrectFrom.source.now c.in-AddCorrectFrom.interval)
    (λ same. ap (λ (h : Plain). bounds h) same))
