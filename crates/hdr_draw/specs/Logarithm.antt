-- Logarithms of whole numbers.
use Rattle.std.specs.Prelude.{◌≡◌, ℕ, ◌+◌, ◌-◌, ◌*◌, ◌/◌, ◌^◌, ◌<◌, ◌≤◌}

-- a curve from 0 at 0 to 65,536 at 65,536 that is near the logarithm to the base of 2 between 1 and 2
unfoldable pub bend : ℕ → ℕ
bend part = part * (86 * 65536 - 22 * part) / (64 * 65536)

-- n approximates the logarithm of a value to the base of 2, in 65,536ths; at powers of 2 it is exact
pub record IsLogarithm (value n : ℕ) : Type 0 where
  pub bits : ℕ
  pub at_least : 2 ^ bits ≤ value
  pub below : value < 2 * 2 ^ bits
  pub is : n ≡ 65536 * bits + bend ((value - 2 ^ bits) * 65536 / 2 ^ bits)
