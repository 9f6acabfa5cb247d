use Rattle.std.proofs.Common.{ℕ, List, ◌≡◌, ◌+◌, ◌++◌, ◌<◌, ◌^◌, length}
use Rattle.std.proofs.lemmas.Result.{on_ok_weaker}
use Rattle.hdr_model.specs.Plain.{resolution}
use Rattle.hdr_verdict.specs.Samples.{Rounds, classes_of}
use Rattle.hdr_verdict.specs.ClassSamples.{AreClassesOf, GainsFew, values_of}
use Rattle.hdr_verdict.proofs.ClassFacts.{add-classes}
use Rattle.hdr_verdict.proofs.width.Width.add.Goals as goal

pub returns-clause-samples : goal.returns-clause-samples
returns-clause-samples c =
    let w = c.args.self in
    let old = c.args.sum.now in
    let new = c.record_all.new.sum in
    let classes = c.args.classes.now in
    on_ok_weaker {P = GainsFew old new (values_of classes)}
    {Q = (S T : List ℕ) → resolution old ≡ classes_of w → Rounds w old S → AreClassesOf w classes T → length S + length T < 2 ^ 64 → Rounds w new (S ++ T)} c.record_all.result
    (λ gains S T same s t few. add-classes w old new classes S T c.record_all.ensures.classes same gains s t few)
    c.record_all.ensures.samples
