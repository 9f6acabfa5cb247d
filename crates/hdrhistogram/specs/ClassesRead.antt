-- The nonempty classes of a histogram that bytes decode to.
use Rattle.std.specs.Prelude.{◌≡◌, ℕ, List, ◌++◌, map, Some}
use Rattle.hdr_model.specs.Plain.{Plain, IsPlain, resolution}
use Rattle.hdr_model.specs.Recording.{Times}
use Rattle.hdr_model.specs.Merging.{classes_from}
use Rattle.hdr_log.specs.Texts.{base64_bytes}
use Rattle.hdrhistogram.specs.V2Read.{IsReadAs}
use Rattle.hdrhistogram.specs.declared.serialization.class_decoder.RecordedClass.{RecordedClass}
use Rattle.hdrhistogram.specs.declared.serialization.class_decoder.RecordedBounds.{RecordedBounds}

-- the lowest value of a class, as many times as its count
abbrev pub times_of : RecordedClass → Times
times_of c = record { value = c.value; times = c.count }

-- the bytes decode to a histogram with these bounds, whose nonempty classes are appended
pub record AppendsHistogram (greatest : ℕ) (text : List ℕ) (bounds : RecordedBounds) (old new : List RecordedClass) : Type 0 where
  pub histogram : Plain
  pub taken : ℕ
  pub read : IsReadAs greatest text histogram taken
  pub plain : IsPlain greatest histogram
  pub low : histogram.low ≡ bounds.low
  pub sigfig : histogram.sigfig ≡ bounds.sigfig
  pub appended : map times_of new ≡ map times_of old ++ classes_from (resolution histogram) 0 histogram.counts

-- the field of an interval is Base64 of such bytes
abbrev pub AppendsField : ℕ → List ℕ → RecordedBounds → (old new : List RecordedClass) → Type 0
AppendsField greatest field bounds old new = (bytes : List ℕ) × (base64_bytes field ≡ Some bytes) × AppendsHistogram greatest bytes bounds old new
