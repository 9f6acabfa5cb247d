use Rattle.std.proofs.Common.{List, ap, ◌∙◌, subst}
use Rattle.hdr_base.specs.Fractions.{Ratio}
use Rattle.hdr_model.specs.Quantiles.{nothing_of_it, returned_from, value_at_quantiles, AreTopsNear}
use Rattle.hdr_model.proofs.QuantilesAscend.{per-one}
use Rattle.hdr_core.proofs.histogram.Histogram.value_at_quantiles.Goals as goal

pub returns-clause-value : goal.returns-clause-value
returns-clause-value g c = c.values.ensures.value ∙ ap (value_at_quantiles c.args.self.now) (per-one c.args.quantiles.now)

pub returns-clause-ranked : goal.returns-clause-ranked
returns-clause-ranked g c = λ S stands some.
    subst (λ (qs : List Ratio). AreTopsNear c.args.self.now S (returned_from c.args.self.now nothing_of_it qs) c.values.result) (per-one c.args.quantiles.now) (c.values.ensures.ranked S stands some)
