use Rattle.std.proofs.Common.{◌≡◌, take}
use Rattle.hdr_model.specs.Plain.{resolution}
use Rattle.hdr_verdict.specs.ClassSamples.{GainsFew, values_of}
use Rattle.hdr_verdict.proofs.width.record_all.Given as goal

abbrev pub invariant-loop-class : goal.invariant-loop-class
invariant-loop-class l = record {
  classes : resolution l.sum ≡ resolution l.initial.sum;
  gains : GainsFew l.initial.sum l.sum (values_of (take l.class-index l.classes));
}
