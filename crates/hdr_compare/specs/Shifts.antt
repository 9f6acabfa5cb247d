-- Percentiles in units of a power of two.
use Rattle.std.specs.Prelude.{◌≡◌, ℕ, ◌/◌, ◌^◌, ◌<◌}
use Rattle.std.specs.Int.{div_ceil}
use Rattle.std.specs.Option.{option_map}
use Rattle.hdr_compare.specs.Changes.{IsComparable}
use Rattle.hdr_compare.specs.declared.changes.Measured.{Measured}

-- the value rounded down, and the ends outwards
abbrev pub shifted : ℕ → Measured → Measured
shifted shift m = record {
  value = m.value / 2 ^ shift;
  low = option_map (λ low. low / 2 ^ shift) m.low;
  high = option_map (λ high. div_ceil high (2 ^ shift)) m.high;
}

-- both in the same units: the smallest in which they can be compared
pub record AreShifted (x y a b : Measured) : Type 0 where
  pub shift : ℕ
  pub least : (t : ℕ) → t < shift → IsComparable (shifted t x) → IsComparable (shifted t y) → ⊥
  pub first : a ≡ shifted shift x
  pub second : b ≡ shifted shift y
