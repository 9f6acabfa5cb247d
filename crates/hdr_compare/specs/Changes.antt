-- Whether a percentile changed. (Zou and Donner 2008: the interval of a difference from those of its parts.)
use Rattle.std.specs.Prelude.{⊤, ◌≡◌, ◌≤◌, ℕ, ◌+◌, ◌-◌, ◌*◌, ◌^◌, ◌<◌, ◌⊎◌, Option, Some, None}
use Rattle.hdr_compare.specs.declared.changes.Measured.{Measured}

abbrev pub square : ℕ → ℕ
square a = a * a

-- y is above num / den times x by more than the half-widths of both intervals, added as the sides of a right triangle
abbrev pub Exceeds : (num den x high y low : ℕ) → Type 0
Exceeds num den x high y low = (num * x < den * y) × (square (den * (y - low)) + square (num * (high - x)) < square (den * y - num * x))

-- y is below num / den times x in the same way
abbrev pub FallsBelow : (num den x low y high : ℕ) → Type 0
FallsBelow num den x low y high = (den * y < num * x) × (square (den * (high - y)) + square (num * (x - low)) < square (num * x - den * y))

-- the same of measured percentiles, whose ends are known
abbrev pub ExceedsBy : (num den : ℕ) → Measured → Measured → Type 0
ExceedsBy num den x y = (high low : ℕ) × (x.high ≡ Some high) × (y.low ≡ Some low) × Exceeds num den x.value high y.value low

abbrev pub FallsBelowBy : (num den : ℕ) → Measured → Measured → Type 0
FallsBelowBy num den x y = (low high : ℕ) × (x.low ≡ Some low) × (y.high ≡ Some high) × FallsBelow num den x.value low y.value high

-- one of two ends is not known
abbrev pub IsOpen : (one other : Option ℕ) → Type 0
IsOpen one other = (one ≡ None) ⊎ (other ≡ None)

-- an end is below 2^40, if there is one
abbrev pub IsSmall : Option ℕ → Type 0
IsSmall None = ⊤
IsSmall (Some end) = end < 2 ^ 40

-- the numbers of a percentile are below 2^40, so that squares of their products fit
abbrev pub IsComparable : Measured → Type 0
IsComparable m = (m.value < 2 ^ 40) × IsSmall m.low × IsSmall m.high

-- the least ratio in thousandths that y does not exceed, to x: y exceeds the one before it, and not it, unless that is the greatest
pub record IsLeastRatio (x y : Measured) (ratio : ℕ) : Type 0 where
  pub within : ratio ≤ 10000000
  pub exceeded : 0 < ratio → ExceedsBy (ratio - 1) 1000 x y
  pub not_exceeded : ratio < 10000000 → ExceedsBy ratio 1000 x y → ⊥

-- the greatest ratio in thousandths that y does not fall below, to x
pub record IsGreatestRatio (x y : Measured) (ratio : ℕ) : Type 0 where
  pub within : ratio < 10000000
  pub below : FallsBelowBy (ratio + 1) 1000 x y
  pub not_below : 0 < ratio → FallsBelowBy ratio 1000 x y → ⊥
