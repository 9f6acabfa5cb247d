use Rattle.std.proofs.Common.{◌∙◌, ◌∷◌, [], ◌-◌, ◌^◌, get_or, map, take, sym, ap}
use Rattle.std.proofs.lemmas.List.{map_more}
use Rattle.hdr_model.specs.Recording.{after_record, after_records}
use Rattle.hdr_model.proofs.MergingKeeps.{recorded_each-append}
use Rattle.hdrhistogram.specs.ClassesRead.{times_of}
use Rattle.hdrhistogram.specs.declared.serialization.class_decoder.RecordedClass.{RecordedClass}
use Rattle.hdr_figures.proofs.classes.record_all.Goals as goal

abbrev no_class : RecordedClass
no_class = record { value = 0; count = 0 }

pub loop-class-preserved : goal.loop-class-preserved
loop-class-preserved c =
    let xs = c.args.classes.now in
    let i = c.loop-class.class-index in
    let class = get_or xs i no_class in
    let old = c.args.sum.now in
    c.in-Ok.ensures.ok ∙ ap (λ sum. after_record (2 ^ 64 - 1) sum class.value class.count) c.loop-class.invariant
    ∙ sym (ap (after_records (2 ^ 64 - 1) old) (map_more times_of xs i no_class c.loop-class-test.true) ∙ recorded_each-append (2 ^ 64 - 1) old (map times_of (take i xs)) (times_of class ∷ []))
