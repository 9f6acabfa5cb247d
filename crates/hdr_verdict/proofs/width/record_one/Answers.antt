use Rattle.std.proofs.Common.{◌∙◌, ◌-◌, ◌^◌, ap}
use Rattle.hdr_model.specs.Plain.{resolution}
use Rattle.hdr_model.proofs.PlainKept.{resolution-recorded}
use Rattle.hdr_verdict.proofs.width.record_one.Goals as goal

pub returns-in-Ok-clause-classes : goal.returns-in-Ok-clause-classes
returns-in-Ok-clause-classes c = ap resolution c.in-Ok.ensures.ok ∙ resolution-recorded (2 ^ 64 - 1) c.args.sum.now c.args.class.value c.args.class.count
