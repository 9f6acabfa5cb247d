-- The bins of values, and the values of bins.
use Rattle.std.proofs.Common.{◌≡◌, ℕ, ◌+◌, ◌-◌, ◌^◌, ◌<◌, ◌≤◌, arith, inl, inr}
use Rattle.std.proofs.lemmas.Bool.{cases_lt}
use Rattle.hdr_base.specs.Classes.{Resolution, bucket, bin_of, value_of, top_of, lowest_of, width_of}
use Rattle.hdr_base.proofs.ClassesLaws.{bin-mono, bin-lowest, lowest-le, width-pos, bucket-end, pow_mono_le}
use Rattle.hdr_base.proofs.ClassesScale.{class-end}
use Rattle.hdr_base.proofs.ClassesFiner.{bin-value_of, lowest-value_of}
use Rattle.hdr_iterators.specs.Seen.{Seen, AreBins, bins_in, bin_or_last, lowest_in, top_in}

-- a value below the lowest of a class lies in a class before it
pub before-class : (g : Resolution) (v i : ℕ) → 0 < g.digits → v < value_of g i → bin_of g v < i
before-class g v i m lt =
    elim (cases_lt (bin_of g v) i) [
      | inl less ↦ less
      | inr ge ↦ (
          let up = bin-mono g v (value_of g i) m (omega arith) in
          let same : bin_of g v ≡ bin_of g (value_of g i) = omega (arith, up, ge, bin-value_of g i m) in
          absurd (omega (arith, lt, bin-lowest g v (value_of g i) m same, lowest-value_of g i m, lowest-le g v))
          )
    ]

-- any other lies in it or after it
pub from-class : (g : Resolution) (v i : ℕ) → 0 < g.digits → value_of g i ≤ v → i ≤ bin_of g v
from-class g v i m le = omega (arith, bin-mono g (value_of g i) v m le, bin-value_of g i m)

-- later values have later bins
pub place-le : (h : Seen) (v w : ℕ) → AreBins h → v ≤ w → bin_or_last h v ≤ bin_or_last h w
place-le h v w p le = omega (arith, bin-mono h.resolution v w p.digits le)

pub place-inside : (h : Seen) (v : ℕ) → AreBins h → bin_or_last h v < bins_in h
place-inside h v p = omega (arith, p.some)

-- the lowest value of a bin is a u64
pub lowest-fits : (h : Seen) (i : ℕ) → AreBins h → i < bins_in h → lowest_in h i ≤ 2 ^ 64 - 1
lowest-fits h i p l =
    elim (cases_lt (2 ^ 64 - 1) (lowest_in h i)) [
      | inl lt ↦ absurd (omega (arith, before-class h.resolution (2 ^ 64 - 1) i p.digits lt, l, p.within))
      | inr ge ↦ ge
    ]

class-fits : (h : Seen) (i : ℕ) → AreBins h → i < bins_in h → lowest_of h.resolution (value_of h.resolution i) + width_of h.resolution (value_of h.resolution i) ≤ 2 ^ 64
class-fits h i p l = class-end h.resolution (value_of h.resolution i) (omega (arith, lowest-fits h i p l)) p.resolution_fits

-- and so is the greatest
pub top-fits : (h : Seen) (i : ℕ) → AreBins h → i < bins_in h → top_in h i ≤ 2 ^ 64 - 1
unfolding top_of
top-fits h i p l = omega (arith, class-fits h i p l, width-pos h.resolution (value_of h.resolution i))

wide-above : (g : Resolution) (v : ℕ) → g.unit + g.digits ≤ 63 → 2 ^ 64 - 1 ≤ v → 2 ≤ width_of g v
unfolding width_of
wide-above g v fits le =
    elim (cases_lt 0 (bucket g v)) [
      | inl some ↦ (let w = pow_mono_le 1 (g.unit + bucket g v) (omega arith) in omega (arith, w))
      | inr none ↦ (
          let low = pow_mono_le (g.unit + g.digits + bucket g v) 63 (omega arith) in
          absurd (omega (arith, low, bucket-end g v, le))
          )
    ]

-- `u64::MAX` is not the lowest value of its class
pub lowest-small : (h : Seen) (i : ℕ) → AreBins h → i < bins_in h → lowest_in h i < 2 ^ 64 - 1
lowest-small h i p l =
    elim (cases_lt (lowest_in h i) (2 ^ 64 - 1)) [
      | inl lt ↦ lt
      | inr ge ↦ absurd (omega (arith, wide-above h.resolution (value_of h.resolution i) p.resolution_fits ge, class-fits h i p l, lowest-value_of h.resolution i p.digits, ge))
    ]
