-- The classes of values that are counted together. Where each definition comes from follows it: the Rust crate's
-- documentation of that item.
use Rattle.std.specs.Prelude.{◌≡◌, ℕ, ◌+◌, ◌-◌, ◌*◌, ◌/◌, ◌%◌, ◌^◌, ◌<◌, ◌≤◌, Bool, true, false, nat_lt, nat_le}
use Rattle.std.proofs.Common.{zero, suc}

-- the least number from k on that passes the test, looked for at n numbers; k + n where none of these passes (ours)
unfoldable pub least_from : (ℕ → Bool) → ℕ → ℕ → ℕ
least_from p k zero = k
least_from p k (suc n) = elim (p k) [ true ↦ k | false ↦ least_from p (suc k) n ]

-- k is the least number of which P holds (ours)
pub record IsLeast (P : ℕ → Type 0) (k : ℕ) : Type 0 where
  pub holds : P k
  pub least : (j : ℕ) → P j → k ≤ j

-- the smallest classes are 2 ^ unit wide, and the first 2 ^ digits classes all are (fields of `Histogram`)
pub record Resolution : Type 0 where
  pub unit : ℕ
  pub digits : ℕ

-- the exponent of the greatest power of two at or below `low` (`new_with_bounds`: "rounded down to a power of 2")
unfoldable pub unit_of : ℕ → ℕ
unit_of low = least_from (λ u. nat_lt low (2 ^ (u + 1))) 0 low

-- the exponent of the least power of two at or above 2 * 10 ^ sigfig (`new_with_bounds`: the digits that are kept)
unfoldable pub digits_of : ℕ → ℕ
digits_of sigfig = least_from (λ m. nat_le (2 * 10 ^ sigfig) (2 ^ m)) 0 (2 * 10 ^ sigfig)

unfoldable pub resolution_of : ℕ → ℕ → Resolution
resolution_of low sigfig = record { unit = unit_of low; digits = digits_of sigfig }

-- the bucket of v: the least k with v < 2 ^ (unit + digits + k) (type `Histogram`: buckets of twice the width each)
unfoldable pub bucket : Resolution → ℕ → ℕ
bucket g v = least_from (λ k. nat_lt v (2 ^ (g.unit + g.digits + k))) 0 v

-- the width of the class of v (`equivalent_range`)
unfoldable pub width_of : Resolution → ℕ → ℕ
width_of g v = 2 ^ (g.unit + bucket g v)

-- the lowest value of the class of v (`lowest_equivalent`)
unfoldable pub lowest_of : Resolution → ℕ → ℕ
lowest_of g v = v - v % width_of g v

-- the greatest value of the class of v (`highest_equivalent`)
unfoldable pub top_of : Resolution → ℕ → ℕ
top_of g v = lowest_of g v + width_of g v - 1

-- two values have one class (`equivalent`)
pub record AreEquivalent (g : Resolution) (a b : ℕ) : Type 0 where
  pub lowest : lowest_of g a ≡ lowest_of g b
  pub top : top_of g a ≡ top_of g b

-- the number of the class of v, counted from 0 (`distinct_values`: one bin for each class, in order)
unfoldable pub bin_of : Resolution → ℕ → ℕ
bin_of g v = bucket g v * 2 ^ (g.digits - 1) + v / width_of g v

-- the lowest value of the class of number i
unfoldable pub value_of : Resolution → ℕ → ℕ
value_of g i =
    let k = i / 2 ^ (g.digits - 1) - 1 in
    (i - k * 2 ^ (g.digits - 1)) * 2 ^ (g.unit + k)

-- the reach of x: the least 2 ^ (unit + digits + k) - 1 at or above x (`buckets`)
unfoldable pub reach_of : Resolution → ℕ → ℕ
reach_of g x = 2 ^ (g.unit + g.digits + bucket g x) - 1

-- how many classes there are from 0 to the reach of a value (`distinct_values`)
unfoldable pub bins_to : Resolution → ℕ → ℕ
bins_to g x = bin_of g (reach_of g x) + 1

-- a lowest value and a number of digits that a scale can keep (`new_with_bounds`, its errors)
pub record HasScale (low sigfig : ℕ) : Type 0 where
  pub not_zero : 0 < low
  pub digits : sigfig ≤ 5
  pub fits : unit_of low + digits_of sigfig ≤ 63

-- what is true of the resolution of every lowest value and number of digits that a scale can keep
abbrev pub OfEachScale : (Resolution → Type 0) → Type 0
OfEachScale P = (low sigfig : ℕ) → HasScale low sigfig → P (resolution_of low sigfig)

-- the values of a class of f lie in one class of g, where f's unit is no greater and its digits are no fewer
pub record IsFiner (f g : Resolution) : Type 0 where
  pub unit : f.unit ≤ g.unit
  pub digits : g.digits ≤ f.digits

-- how many bins the largest histogram has: 5 digits over all values are 48 blocks of 131,072 (`new_with_bounds`)
abbrev pub most_bins : ℕ
most_bins = 6291456
