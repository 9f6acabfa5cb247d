use Rattle.std.proofs.Common.{◌∙◌, ap, true}
use Rattle.hdr_model.specs.Plain.{Plain, resolution}
use Rattle.hdr_verdict.proofs.Rounding.{empty-rounds, empty-classes}
use Rattle.hdr_verdict.proofs.width.Width.histogram.Goals as goal

pub returns-clause-classes : goal.returns-clause-classes
returns-clause-classes c =
    let is = c.auto.ensures ∙ ap (λ (k : Plain). record k { auto_resize = true }) c.in_ok-histogram.ensures.made.0 in
    ap resolution is ∙ empty-classes c.args.self.low c.saturating_mul.result c.args.self.sigfig true

pub returns-clause-samples : goal.returns-clause-samples
returns-clause-samples c =
    let is = c.auto.ensures ∙ ap (λ (k : Plain). record k { auto_resize = true }) c.in_ok-histogram.ensures.made.0 in
    empty-rounds c.args.self c.saturating_mul.result c.auto.new.self is (c.clearing_stands.ensures.made c.args.self.low c.saturating_mul.result c.args.self.sigfig true)
