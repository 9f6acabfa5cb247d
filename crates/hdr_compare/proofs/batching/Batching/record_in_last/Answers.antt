use Rattle.std.proofs.Common.{◌-◌, ◌^◌, ◌∙◌, ap}
use Rattle.hdr_base.specs.Classes.{resolution_of}
use Rattle.hdr_model.specs.Plain.{resolution}
use Rattle.hdr_model.proofs.CorrectionByClass.{resolution-corrected}
use Rattle.hdr_compare.specs.Batchings.{recorded}
use Rattle.hdr_compare.proofs.Parts.{last-classes, last-gains}
use Rattle.hdr_compare.proofs.batching.Batching.record_in_last.Goals as goal

pub returns-in-Ok-clause-samples : goal.returns-in-Ok-clause-samples
returns-in-Ok-clause-samples c S few has =
    let old = c.args.self.now in
    let front = old.full.items in
    let more = c.record_correct.new.self in
    let same = ap resolution c.in-Ok.ensures.ok ∙ resolution-corrected (2 ^ 64 - 1) old.last c.args.value 1 c.args.interval in
    record {
      parts = last-gains front old.last more S (recorded c.args.value c.args.interval) few c.in-Ok.ensures.samples has.parts;
      classes = last-classes (resolution_of 1 old.sigfig) front old.last more same has.classes;
    }
