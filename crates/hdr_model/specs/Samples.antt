-- The samples that a histogram stands for. (The documentation of the type `Histogram`: counts of recorded values, up to a
-- precision. As a relation it is our own: no field keeps samples.)
use Rattle.std.specs.Prelude.{◌≡◌, ◌==◌, ℕ, ◌^◌, ◌<◌, ◌≤◌, List, ◌++◌, length, slice_index, count_by, All}
use Rattle.hdr_base.specs.Classes.{Resolution, bin_of}
use Rattle.hdr_model.specs.Plain.{Plain, IsPlain, resolution, reach}

-- how many samples lie in a class
abbrev pub in_class : Resolution → ℕ → List ℕ → ℕ
in_class g i S = count_by (λ s. bin_of g s == i) S

-- each number of the histogram is how many of the samples lie in its class, none lies past the reach, and the total is how many there are
pub record StandsFor (h : Plain) (S : List ℕ) : Type 0 where
  pub numbers : (i : ℕ) → i < length h.counts → slice_index h.counts i ≡ in_class (resolution h) i S
  pub within : All (λ s. s ≤ reach h) S
  pub total : h.total ≡ length S

-- the samples can be counted: in all, and in each class
pub record Fits (greatest : ℕ) (g : Resolution) (S : List ℕ) : Type 0 where
  pub in_all : length S < 2 ^ 64
  pub in_classes : (i : ℕ) → in_class g i S ≤ greatest

-- of a histogram k that was made of h: if these samples fit beside those that h stands for, k stands for all of them
abbrev pub GainsSamples : ℕ → Plain → Plain → List ℕ → Type 0
GainsSamples greatest h k L = (S : List ℕ) → StandsFor h S → Fits greatest (resolution h) (S ++ L) → StandsFor k (S ++ L)

-- what is true of each histogram that stands for at least one sample, and of its samples
abbrev pub OfEachFilled : (Plain → List ℕ → Type 0) → Type 0
OfEachFilled P = (greatest : ℕ) (h : Plain) (S : List ℕ) → IsPlain greatest h → StandsFor h S → 0 < length S → P h S
