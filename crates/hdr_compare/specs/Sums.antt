-- Sums of batches.
use Rattle.std.specs.Prelude.{◌≡◌, ◌⊎◌, ℕ, ◌≤◌, ◌<◌, ◌^◌, List, length}
use Rattle.std.specs.List.{All, Any}
use Rattle.hdr_base.specs.Classes.{Resolution, resolution_of}
use Rattle.hdr_model.specs.Plain.{Plain}
use Rattle.hdr_model.specs.Samples.{StandsFor}
use Rattle.hdr_compare.specs.Parts.{AreParts}
use Rattle.hdr_compare.specs.declared.sums.Width.{Width}

-- the classes of a histogram lie in those of a width
pub record IsWithin (width : Width) (h : Plain) : Type 0 where
  pub low : h.low ≤ width.low
  pub sigfig : width.sigfig ≤ h.sigfig

-- the width of the finest classes in which those of all histograms lie: its least class is that of one of them, or 1, and its digits are
-- those of one of them, or 5
pub record IsWidthOf (hs : List Plain) (width : Width) : Type 0 where
  pub within : All (IsWithin width) hs
  pub low : (width.low ≡ 1) ⊎ Any (λ h. h.low ≡ width.low) hs
  pub sigfig : (width.sigfig ≡ 5) ⊎ Any (λ h. h.sigfig ≡ width.sigfig) hs

-- these are the finest classes in which those of all histograms lie
pub record AreLeastClasses (hs : List Plain) (g : Resolution) : Type 0 where
  pub width : Width
  pub is_width : IsWidthOf hs width
  pub classes : g ≡ resolution_of width.low width.sigfig

-- a sum stands for the samples of batches
abbrev pub IsSumOf : List Plain → Plain → Type 0
IsSumOf hs sum = (S : List ℕ) → length S < 2 ^ 64 → AreParts S hs → StandsFor sum S
