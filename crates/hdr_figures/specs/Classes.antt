-- The classes of a histogram that was decoded.
use Rattle.std.specs.Prelude.{◌≡◌, ◌-◌, ◌^◌, List, None, map}
use Rattle.hdr_model.specs.Merging.{classes_from}
use Rattle.hdr_model.specs.Plain.{Plain, IsPlain, resolution}
use Rattle.hdrhistogram.specs.ClassesRead.{times_of}
use Rattle.hdrhistogram.specs.V2Read.{IsRestated}
use Rattle.hdrhistogram.specs.declared.serialization.class_decoder.RecordedBounds.{RecordedBounds}
use Rattle.hdrhistogram.specs.declared.serialization.class_decoder.RecordedClass.{RecordedClass}
use Rattle.hdr_figures.specs.declared.classes.Classes.{Classes}

-- the bounds and the nonempty classes of a histogram, whose total and marks are those of its counters
pub record ListsClasses (bounds : RecordedBounds) (all : List RecordedClass) (h : Plain) : Type 0 where
  pub plain : IsPlain (2 ^ 64 - 1) h
  pub restated : IsRestated h
  pub low : h.low ≡ bounds.low
  pub sigfig : h.sigfig ≡ bounds.sigfig
  pub items : map times_of all ≡ classes_from (resolution h) 0 h.counts

-- the same, with what follows from these
pub record AreClassesOf (c : Classes) (h : Plain) : Type 0 where
  pub listed : ListsClasses c.bounds c.items.now h
  pub scale : c.scale ≡ resolution h
  pub total : c.total ≡ h.total

-- a histogram without samples has no marks, as after `reset`
abbrev pub IsMarkedBySamples : Plain → Type 0
IsMarkedBySamples h = h.total ≡ 0 → (h.top_mark ≡ None) × (h.lower_mark ≡ None)
