use Rattle.std.proofs.Common.{sym, subst, arith, length}
use Rattle.std.proofs.lemmas.List.{take_all}
use Rattle.hdr_core.specs.Calls.{CallsTo}
use Rattle.hdr_model.specs.Plain.{resolution}
use Rattle.hdr_model.specs.Runs.{StandsAt}
use Rattle.hdr_model.specs.Samples.{Fits}
use Rattle.hdr_headline.proofs.copies.headline.Goals as goal

pub returns-clause-ranked : goal.returns-clause-ranked
returns-clause-ranked g c =
    λ s t stands calls filled above.
    let run = subst (λ cs. CallsTo g.T.Counter.number (resolution c.args.histogram.now) (Fits g.T.Counter.greatest (resolution c.args.histogram.now)) cs s t) (sym (take_all (length c.args.calls.now) c.args.calls.now (omega arith))) calls in
    let after : StandsAt c.apply_all.new.self t = c.in-Ok.ensures.samples s t stands run in
    c.value_at_quantile-value.ensures.ranked t.samples after.0 filled above

pub returns-clause-alike : goal.returns-clause-alike
returns-clause-alike g c =
    λ s t stands calls.
    let run = subst (λ cs. CallsTo g.T.Counter.number (resolution c.args.histogram.now) (Fits g.T.Counter.greatest (resolution c.args.histogram.now)) cs s t) (sym (take_all (length c.args.calls.now) c.args.calls.now (omega arith))) calls in
    let after : StandsAt c.apply_all.new.self t = c.in-Ok.ensures.samples s t stands run in
    (c.in-Ok-through_bytes.ensures.alike t.samples after.0, c.in-Ok-through_line.ensures.alike t.samples after.0)
