use Rattle.std.proofs.Common.{◌≡◌, ◌∙◌, ◌∷◌, [], ◌-◌, ◌*◌, ◌^◌, get_or, map, take, sym, ap}
use Rattle.std.proofs.lemmas.List.{map_more}
use Rattle.hdr_model.specs.Plain.{Plain}
use Rattle.hdr_model.specs.Recording.{Times, after_record, after_records}
use Rattle.hdr_model.proofs.MergingKeeps.{recorded_each-append}
use Rattle.hdrhistogram.specs.ClassesRead.{times_of}
use Rattle.hdrhistogram.specs.declared.serialization.class_decoder.RecordedClass.{RecordedClass}
use Rattle.hdr_logs.specs.Scales.{top_times}
use Rattle.hdr_logs.proofs.scales.record_tops.Goals as goal

abbrev no_class : RecordedClass
no_class = record { value = 0; count = 0 }

pub loop-class-preserved : goal.loop-class-preserved
loop-class-preserved c =
    let xs = c.args.classes.now in
    let i = c.loop-class.class-index in
    let tops : RecordedClass → Times = λ class. top_times c.args.scale c.args.factor (times_of class) in
    let t = tops (get_or xs i no_class) in
    let old = c.args.sum.now in
    let value : c.in-Some.value ≡ t.value = c.in-Some.ensures.1 ∙ ap (λ v. c.args.factor * v) c.top.ensures in
    c.in-Ok.ensures.ok ∙ ap (λ v. after_record (2 ^ 64 - 1) c.loop-class.sum v t.times) value ∙ ap (λ (sum : Plain). after_record (2 ^ 64 - 1) sum t.value t.times) c.loop-class.invariant
    ∙ sym (ap (after_records (2 ^ 64 - 1) old) (map_more tops xs i no_class c.loop-class-test.true) ∙ recorded_each-append (2 ^ 64 - 1) old (map tops (take i xs)) (t ∷ []))
