-- The least power of two by which samples are divided.
use Rattle.std.proofs.Common.{◌≡◌, ℕ, ◌+◌, ◌*◌, ◌^◌, ◌<◌, ◌≤◌, arith, inl, inr}
use Rattle.std.proofs.lemmas.Bool.{cases_lt}
use Rattle.std.proofs.Math.Nat.{mul-le-mul}
use Rattle.hdr_compare.specs.Ends.{IsShift}

-- there is one least power
pub same_shift : (n s t : ℕ) → IsShift n s → IsShift n t → s ≡ t
same_shift n s t one other =
    elim (cases_lt s t) [
      | inl below ↦ absurd (omega (arith, one.few, other.least s below))
      | inr above ↦ elim (cases_lt t s) [
        | inl below ↦ absurd (omega (arith, other.few, one.least t below))
        | inr least ↦ omega (arith, above, least)
      ]
    ]

-- a rank below a quantile is below 2^40, as the number of samples is
pub sum_fits : (n num den under : ℕ) → n < 2 ^ 40 → num ≤ den → (under + 1) * den < num * n → under + 1 < 2 ^ 40
sum_fits n num den under few proper below =
    elim (cases_lt (under + 1) (2 ^ 40)) [
      | inl fits ↦ fits
      | inr many ↦ (
          let product : num * n ≤ den * n = mul-le-mul proper (omega arith) in
          let least : n * den ≤ (under + 1) * den = mul-le-mul (omega (arith, few, many)) (omega arith) in
          absurd (omega (arith, product, least, below)))
    ]
