-- Classes that lie in those of a width.
use Rattle.std.proofs.Common.{◌≡◌, ◌⊎◌, ℕ, ◌+◌, ◌^◌, ◌<◌, ◌≤◌, ltb, max, min, List, length, get_or, arith, inl, inr, subst}
use Rattle.std.specs.List.{Any}
use Rattle.std.proofs.lemmas.Bool.{cases_lt}
use Rattle.hdr_base.specs.Classes.{IsFiner, unit_of}
use Rattle.hdr_base.proofs.ClassesDigits.{finer-by}
use Rattle.hdr_base.proofs.ClassesLeast.{least_from-passes, least_from-le}
use Rattle.hdr_base.proofs.ClassesLaws.{below_own_power, ltb-from, ltb-to}
use Rattle.hdr_model.specs.Plain.{Plain, resolution}
use Rattle.hdr_compare.specs.Sums.{IsWithin}
use Rattle.hdr_compare.specs.declared.sums.Width.{Width}

unit-rises : (low other : ℕ) → low ≤ other → unit_of low ≤ unit_of other
unfolding unit_of
unit-rises low other le =
    let ends : other < 2 ^ (unit_of other + 1) = ltb-to other (2 ^ (unit_of other + 1)) (least_from-passes (λ u. ltb other (2 ^ (u + 1))) other 0 other (omega arith) (omega arith) (ltb-from other (2 ^ (other + 1)) (omega (arith, below_own_power (other + 1))))) in
    least_from-le (λ u. ltb low (2 ^ (u + 1))) low 0 (unit_of other) (omega arith) (ltb-from low (2 ^ (unit_of other + 1)) (omega (arith, ends)))

-- the classes of a histogram lie in those of a sum of a width
pub finer-within : (width : Width) (h sum : Plain) → sum.low ≡ width.low → sum.sigfig ≡ width.sigfig → IsWithin width h → IsFiner (resolution h) (resolution sum)
finer-within width h sum low sigfig within =
    finer-by h.low h.sigfig sum.low sum.sigfig (unit-rises h.low sum.low (omega (arith, low, within.low))) (omega (arith, sigfig, within.sigfig))

-- the greater of a least class and of that of a histogram is that of one of the histograms, as the first one is
pub greater_low : (hs : List Plain) (i : ℕ) (h : Plain) (n m : ℕ) → i < length hs → get_or hs i h ≡ h → m ≡ max n h.low
    → (n ≡ 1) ⊎ Any (λ (b : Plain). b.low ≡ n) hs → (m ≡ 1) ⊎ Any (λ (b : Plain). b.low ≡ m) hs
greater_low hs i h n m inside at is before =
    elim (cases_lt n h.low) [
      | inl lt ↦ (
          let same : h.low ≡ m = omega (arith, is, lt) in
          inr (i, h, inside, at, same))
      | inr ge ↦ (
          let same : n ≡ m = omega (arith, is, ge) in
          subst (λ k. (k ≡ 1) ⊎ Any (λ (b : Plain). b.low ≡ k) hs) same before)
    ]

-- and so for the fewer digits
pub fewer_digits : (hs : List Plain) (i : ℕ) (h : Plain) (n m : ℕ) → i < length hs → get_or hs i h ≡ h → m ≡ min n h.sigfig
    → (n ≡ 5) ⊎ Any (λ (b : Plain). b.sigfig ≡ n) hs → (m ≡ 5) ⊎ Any (λ (b : Plain). b.sigfig ≡ m) hs
fewer_digits hs i h n m inside at is before =
    elim (cases_lt h.sigfig n) [
      | inl lt ↦ (
          let same : h.sigfig ≡ m = omega (arith, is, lt) in
          inr (i, h, inside, at, same))
      | inr ge ↦ (
          let same : n ≡ m = omega (arith, is, ge) in
          subst (λ k. (k ≡ 5) ⊎ Any (λ (b : Plain). b.sigfig ≡ k) hs) same before)
    ]
