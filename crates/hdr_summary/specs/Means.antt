-- Means of samples that are only known by their classes.
use Rattle.std.specs.Prelude.{◌≡◌, ℕ, ◌*◌, ◌-◌, ◌^◌, ◌<◌, ◌≤◌, Bool, true, false, min, List, length}
use Rattle.std.specs.List.{sum_by}
use Rattle.hdr_input.specs.declared.bound.Bound.{Bound}
use Rattle.hdr_summary.specs.declared.means.SampleSum.{SampleSum}
use Rattle.hdr_summary.specs.Classes.{Known, lowest_in_units, greatest_in_units}

-- the sums of the lowest and of the greatest values of the classes of samples, in units
abbrev pub lowest_sum : List Known → ℕ
lowest_sum L = sum_by lowest_in_units L

abbrev pub greatest_sum : List Known → ℕ
greatest_sum L = sum_by greatest_in_units L

-- the number of samples, and the bounds of their sum, as far as 64 and 128 bits hold them
pub record IsSumOf (sum : SampleSum) (L : List Known) : Type 0 where
  pub total : sum.total ≡ min (length L) (2 ^ 64 - 1)
  pub low : sum.low ≡ min (lowest_sum L) (2 ^ 128 - 1)
  pub high : sum.high ≡ min (greatest_sum L) (2 ^ 128 - 1)

-- a fraction is within a bound
abbrev pub IsWithin : Bool → (one other : ℕ) → Type 0
IsWithin true one other = one ≤ other
IsWithin false one other = one < other

-- the mean of n samples of this sum, in units of 10 ^ -decimals, is within a bound
abbrev pub IsMeanWithin : Bound → (sum n decimals : ℕ) → Type 0
IsMeanWithin b sum n decimals =
    (0 < n) × IsWithin b.is_included (sum * 10 ^ b.number.decimals) (b.number.digits * 10 ^ decimals * n)
