-- The samples of classes that were decoded.
use Rattle.std.specs.Prelude.{◌≡◌, ℕ, Bool, ◌+◌, ◌-◌, ◌^◌, ◌<◌, ◌++◌, List, count_by, length, map}
use Rattle.std.specs.List.{All}
use Rattle.hdr_base.specs.Classes.{Resolution, bin_of}
use Rattle.hdr_model.specs.Plain.{Plain, IsPlain, resolution}
use Rattle.hdr_model.specs.Merging.{classes_from}
use Rattle.hdr_model.specs.Recording.{samples_of}
use Rattle.hdr_model.specs.Samples.{StandsFor}
use Rattle.hdrhistogram.specs.ClassesRead.{times_of}
use Rattle.hdrhistogram.specs.declared.serialization.class_decoder.RecordedBounds.{RecordedBounds}
use Rattle.hdrhistogram.specs.declared.serialization.class_decoder.RecordedClass.{RecordedClass}
use Rattle.hdr_verdict.specs.Samples.{Held, IsOf, classes_of, rounded}
use Rattle.hdr_verdict.specs.declared.width.Width.{Width}

-- the lowest value of each class, as often as its count
abbrev pub values_of : List RecordedClass → List ℕ
values_of classes = samples_of (map times_of classes)

-- as many of both lists lie in any classes, given by a test of their numbers
abbrev pub LieAlike : Resolution → List ℕ → List ℕ → Type 0
LieAlike g S T = (p : ℕ → Bool) → count_by (λ s. p (bin_of g s)) S ≡ count_by (λ s. p (bin_of g s)) T

-- classes have samples that are these if each is the greatest value of its class of a width
pub record AreClassesOf (width : Width) (classes : List RecordedClass) (S : List ℕ) : Type 0 where
  pub exact : List ℕ
  pub alike : LieAlike (classes_of width) (values_of classes) exact
  pub is : S ≡ rounded width exact
  pub fit : All (λ s. s < 2 ^ 64) exact

-- the nonempty classes of a histogram that is what is held are appended
pub record AppendsHeld (held : Held) (bounds : RecordedBounds) (old new : List RecordedClass) : Type 0 where
  pub histogram : Plain
  pub is : IsOf held histogram
  pub plain : IsPlain (2 ^ 64 - 1) histogram
  pub low : bounds.low ≡ held.low
  pub sigfig : bounds.sigfig ≡ held.sigfig
  pub appended : map times_of new ≡ map times_of old ++ classes_from (resolution histogram) 0 histogram.counts

-- of a histogram k that was made of h: if there are fewer than 2^64 of these samples and those that h stands for, k stands for all
-- of them
abbrev pub GainsFew : Plain → Plain → List ℕ → Type 0
GainsFew h k L = (S : List ℕ) → StandsFor h S → length S + length L < 2 ^ 64 → StandsFor k (S ++ L)
