-- Histograms of the greatest values of classes, times a factor.
use Rattle.std.proofs.Common.{◌≡◌, ◌∙◌, ℕ, ◌-◌, ◌^◌, List, map, true, ap}
use Rattle.hdr_base.specs.Classes.{Resolution}
use Rattle.hdr_model.specs.Plain.{Plain, empty_plain, resolution}
use Rattle.hdr_model.specs.Recording.{Times, after_records}
use Rattle.hdr_model.specs.Merging.{classes_from}
use Rattle.hdrhistogram.specs.ClassesRead.{times_of}
use Rattle.hdrhistogram.specs.declared.serialization.class_decoder.RecordedClass.{RecordedClass}
use Rattle.hdr_logs.specs.Scales.{multiplied, top_times}
use Rattle.hdr_logs.proofs.Parts.{map_twice}

-- the classes of a histogram, recorded in an empty one of the same digits
pub multiplied-is : (factor : ℕ) (h made sum : Plain) (scale : Resolution) (classes : List RecordedClass) → map times_of classes ≡ classes_from (resolution h) 0 h.counts
    → scale ≡ resolution h → made ≡ empty_plain 1 2 h.sigfig true → sum ≡ after_records (2 ^ 64 - 1) made (map (λ class. top_times scale factor (times_of class)) classes)
    → sum ≡ multiplied factor h
multiplied-is factor h made sum scale classes listed same new is =
    let empty = empty_plain 1 2 h.sigfig true in
    let tops : Times → Times = top_times (resolution h) factor in
    is ∙ ap (λ (m : Plain). after_records (2 ^ 64 - 1) m (map (λ class. top_times scale factor (times_of class)) classes)) new
    ∙ ap (λ (g : Resolution). after_records (2 ^ 64 - 1) empty (map (λ class. top_times g factor (times_of class)) classes)) same
    ∙ ap (after_records (2 ^ 64 - 1) empty) (map_twice tops times_of classes ∙ ap (map tops) listed)
