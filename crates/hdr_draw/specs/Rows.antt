-- The rows of a heat map: equal parts of a logarithmic scale.
use Rattle.std.specs.Prelude.{ℕ, ◌+◌, ◌-◌, ◌*◌, ◌^◌, ◌<◌, ◌≤◌, List, [], ◌∷◌}

-- the values between which a scale lies
pub record Ends : Type 0 where
  pub low : ℕ
  pub high : ℕ

-- the 40th power of the value at k of 40 equal parts of the scale's logarithm
unfoldable pub power_at : Ends → ℕ → ℕ
power_at e k = e.high ^ k * e.low ^ (40 - k)

-- the row holds the value: the value lies in this part of the scale, or beyond its end if the part is the first or the last
pub record IsRow (e : Ends) (value row : ℕ) : Type 0 where
  pub within : row < 40
  pub above : 0 < row → power_at e row ≤ value ^ 40
  pub below : row < 39 → value ^ 40 < power_at e (row + 1)

-- the least value of the parts from k on
pub record IsBound (e : Ends) (k bound : ℕ) : Type 0 where
  pub above : power_at e k ≤ bound ^ 40
  pub least : (value : ℕ) → value < bound → value ^ 40 < power_at e k

-- the number of digits to the base 2^64, the lowest first
abbrev pub number : List ℕ → ℕ
number [] = 0
number (d ∷ ds) = d + 18446744073709551616 * number ds
