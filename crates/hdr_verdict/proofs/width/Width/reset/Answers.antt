use Rattle.std.proofs.Common.{◌∙◌, ap}
use Rattle.hdr_model.specs.Plain.{resolution}
use Rattle.hdr_verdict.proofs.Rounding.{reset-classes, reset-rounds}
use Rattle.hdr_verdict.proofs.width.Width.reset.Goals as goal

pub returns-clause-classes : goal.returns-clause-classes
returns-clause-classes c = ap resolution c.reset.ensures ∙ reset-classes c.args.sum.now

pub returns-clause-samples : goal.returns-clause-samples
returns-clause-samples c = λ same. reset-rounds c.args.self c.args.sum.now c.reset.new.self c.reset.ensures same (c.clearing_stands.ensures.restarted c.args.sum.now)
