-- Batches of samples, one after the other.
use Rattle.std.specs.Prelude.{◌≡◌, ℕ, ◌^◌, ◌<◌, List, [], ◌∷◌, ◌++◌, length, Option, Some, None}
use Rattle.std.specs.List.{AllByRecursion}
use Rattle.hdr_base.specs.Classes.{Resolution}
use Rattle.hdr_model.specs.Plain.{Plain, resolution}
use Rattle.hdr_model.specs.Samples.{StandsFor}

-- samples in two parts: a histogram stands for the first one
pub record IsFirstPart (S : List ℕ) (h : Plain) (others : List ℕ) : Type 0 where
  pub first : List ℕ
  pub whole : S ≡ first ++ others
  pub stands : StandsFor h first

-- histograms stand for the parts of samples, one after the other
abbrev pub AreParts : List ℕ → List Plain → Type 0
AreParts S [] = S ≡ []
AreParts S (h ∷ hs) = (others : List ℕ) × IsFirstPart S h others × AreParts others hs

-- the histograms have these classes
abbrev pub HaveClasses : Resolution → List Plain → Type 0
HaveClasses g hs = AllByRecursion (λ h. resolution h ≡ g) hs

-- a histogram, if there is one
abbrev pub waiting : Option Plain → List Plain
waiting None = []
waiting (Some h) = h ∷ []

-- what some histograms stand for, others stand for too, if all have the same classes and the samples can be counted
pub record KeepsParts (old new : List Plain) : Type 0 where
  pub parts : (g : Resolution) (S : List ℕ) → HaveClasses g old → length S < 2 ^ 64 → AreParts S old → AreParts S new
  pub classes : (g : Resolution) → HaveClasses g old → HaveClasses g new
