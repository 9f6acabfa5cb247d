-- The arithmetic of a scale gives the classes.
use Rattle.std.proofs.Common.{true, ltb, ◌≡◌, ℕ, ◌+◌, ◌-◌, ◌*◌, ◌/◌, ◌%◌, ◌^◌, ◌<◌, ◌≤◌, sym, ap, ◌∙◌, arith, inl, inr}
use lib.Pow.{ones_split}
use lib.Count.{count_leading_zeros}
use Rattle.std.proofs.lemmas.Bool.{cases_lt}
use Rattle.std.proofs.lemmas.Nat.{shl-shr, mul-le, div-mul-add, pow_pos, pow-add, div-add-mod', mod_below, shr_le, shl_whole, one_shl, leading_length}
use Rattle.std.proofs.Math.Nat.{mod-eq_of_lt}
use Rattle.hdr_base.specs.Classes.{most_bins, Resolution, bucket, width_of, lowest_of, bin_of, unit_of, least_from}
use Rattle.hdr_base.proofs.ClassesLeast.{least_from-passes, least_from-le}
use Rattle.hdr_base.proofs.ClassesLaws.{below_own_power, ltb-from, ltb-to, pow_mono_le, bucket-is, bucket-least, two-halves, place-below, lowest-as-product, lowest-le, end-as-product, bin-mono}

module _ (g : Resolution) (v : ℕ) (small : v < 2 ^ 64) (fits : g.unit + g.digits ≤ 63) where
  pub bucket-bound : g.unit + g.digits + bucket g v ≤ 64
  bucket-bound =
      let s = g.unit + g.digits in
      let e : 64 ≡ s + (64 - s) = omega arith in
      omega (arith, bucket-least g v (64 - s) (rw (← e) small))

  bucket-from-length : (k : ℕ) → v / 2 ^ (g.unit + g.digits) < 2 ^ k → 2 ^ k ≤ 2 * (v / 2 ^ (g.unit + g.digits)) + 1 → bucket g v ≡ k
  bucket-from-length k below above =
      let s = g.unit + g.digits in
      let a = v / 2 ^ s in
      bucket-is g v k
      (rw (pow-add 2 s k) (
      let row : (a + 1) * 2 ^ s ≤ 2 ^ k * 2 ^ s = mul-le (a + 1) (2 ^ s) (2 ^ k) (2 ^ s) (omega arith) (omega arith) in
      omega (arith, div-add-mod' v (2 ^ s), mod_below v (2 ^ s) (pow_pos s))
      ))
      (λ (h : 0 < k). rw (pow-add 2 s (k - 1)) (
      let half : 2 ^ (k - 1) ≤ a = omega (arith, two-halves k h) in
      let row : 2 ^ (k - 1) * 2 ^ s ≤ a * 2 ^ s = mul-le (2 ^ (k - 1)) (2 ^ s) a (2 ^ s) half (omega arith) in
      omega (arith, div-add-mod' v (2 ^ s))
      ))

  pub bucket-code : 64 - count_leading_zeros 64 (v / 2 ^ (g.unit + g.digits)) ≡ bucket g v
  bucket-code =
      let length = leading_length 64 (v / 2 ^ (g.unit + g.digits)) (omega (arith, shr_le v (g.unit + g.digits))) in
      omega (arith, length.1, bucket-from-length length.0 length.2 length.3)

  pub class-end : lowest_of g v + width_of g v ≤ 2 ^ 64
  unfolding width_of
  class-end =
      let k = bucket g v in
      let w = 2 ^ (g.unit + k) in
      let row : (v / w + 1) * w ≤ 2 ^ g.digits * w = mul-le (v / w + 1) w (2 ^ g.digits) w (omega (arith, place-below g v)) (omega arith) in
      omega (arith, lowest-as-product g v, end-as-product g v k, pow_mono_le (g.unit + g.digits + k) 64 bucket-bound)

  pub bin-shift : g.digits ≤ 18 → bucket g v * 2 ^ (g.digits - 1) % 2 ^ 64 ≡ bucket g v * 2 ^ (g.digits - 1)
  bin-shift d = shl_whole (bucket g v) 7 (g.digits - 1) 64 (omega (arith, bucket-bound)) (omega arith)

  pub bin-bound : 0 < g.digits → g.digits ≤ 18 → bin_of g v < 2 ^ 24
  unfolding bin_of
  bin-bound m d =
      let row : bucket g v * 2 ^ (g.digits - 1) ≤ 64 * 2 ^ 17 =
      mul-le (bucket g v) (2 ^ (g.digits - 1)) 64 (2 ^ 17) (omega (arith, bucket-bound)) (pow_mono_le (g.digits - 1) 17 (omega arith)) in
      omega (arith, place-below g v, pow_mono_le g.digits 18 d)

  pub bin-from-shifts : 0 < g.digits → g.digits ≤ 18 → bucket g v * 2 ^ (g.digits - 1) % 2 ^ 64 + v / 2 ^ (g.unit + bucket g v) ≡ bin_of g v
  unfolding bin_of width_of
  bin-from-shifts m d = omega (arith, bin-shift d)

  pub width-from-shift : 0 < g.digits → 1 * 2 ^ (g.unit + bucket g v) % 2 ^ 64 ≡ width_of g v
  unfolding width_of
  width-from-shift m = one_shl (g.unit + bucket g v) 64 (omega (arith, bucket-bound))

  pub lowest-from-shifts : v / 2 ^ (g.unit + bucket g v) * 2 ^ (g.unit + bucket g v) % 2 ^ 64 ≡ lowest_of g v
  unfolding width_of
  lowest-from-shifts = mod-eq_of_lt (omega (arith, lowest-as-product g v, lowest-le g v)) ∙ sym (lowest-as-product g v)

-- the value of a class, by its index within the bucket
module _ (g : Resolution) (k q : ℕ) (m : 0 < g.digits) (below : q < 2 ^ g.digits) (above : 0 < k → 2 ^ (g.digits - 1) ≤ q) where
  value-bucket : bucket g (q * 2 ^ (g.unit + k)) ≡ k
  value-bucket =
      let w = 2 ^ (g.unit + k) in
      bucket-is g (q * w) k
      (rw (end-as-product g 0 k) (omega (arith, pow_pos (g.unit + k), mul-le (q + 1) w (2 ^ g.digits) w (omega arith) (omega arith))))
      (λ (h : 0 < k).
      let e : g.unit + g.digits + (k - 1) ≡ (g.digits - 1) + (g.unit + k) = omega arith in
      let p : 2 ^ (g.unit + g.digits + (k - 1)) ≡ 2 ^ (g.digits - 1) * w = ap (λ (x : ℕ). 2 ^ x) e ∙ pow-add 2 (g.digits - 1) (g.unit + k) in
      omega (arith, mul-le (2 ^ (g.digits - 1)) w q w (above h) (omega arith)))

  pub value-width : width_of g (q * 2 ^ (g.unit + k)) ≡ 2 ^ (g.unit + k)
  unfolding width_of
  value-width = ap (λ (k : ℕ). 2 ^ (g.unit + k)) value-bucket

  value-place : q * 2 ^ (g.unit + k) / width_of g (q * 2 ^ (g.unit + k)) ≡ q
  value-place = ap (λ (w : ℕ). q * 2 ^ (g.unit + k) / w) value-width ∙ shl-shr q (g.unit + k)

  pub value-bin : bin_of g (q * 2 ^ (g.unit + k)) ≡ k * 2 ^ (g.digits - 1) + q
  unfolding bin_of
  value-bin = ap (λ (b : ℕ). b * 2 ^ (g.digits - 1) + q * 2 ^ (g.unit + k) / width_of g (q * 2 ^ (g.unit + k))) value-bucket ∙ ap (λ (p : ℕ). k * 2 ^ (g.digits - 1) + p) value-place

  pub value-lowest : lowest_of g (q * 2 ^ (g.unit + k)) ≡ q * 2 ^ (g.unit + k)
  value-lowest =
      lowest-as-product g (q * 2 ^ (g.unit + k)) ∙ ap (λ (p : ℕ). p * width_of g (q * 2 ^ (g.unit + k))) value-place ∙ ap (λ (w : ℕ). q * w) value-width

-- the value of an index, and the indices that have none
module _ (g : Resolution) (i : ℕ) (m : 0 < g.digits) (d : g.digits ≤ 18) (fits : g.unit + g.digits ≤ 63) where
  index-last : 64 - (g.unit + g.digits) < i / 2 ^ (g.digits - 1) - 1 → bin_of g (2 ^ 64 - 1) < i
  unfolding bin_of
  index-last h =
      let H = 2 ^ (g.digits - 1) in
      let last = 2 ^ 64 - 1 in
      let row : (bucket g last + 2) * H ≤ i / H * H =
      mul-le (bucket g last + 2) H (i / H) H (omega (arith, bucket-bound g last (omega arith) fits)) (omega arith) in
      omega (arith, place-below g last, two-halves g.digits m, div-add-mod' i H)

  -- the bucket of a number that some value's class has
  pub index-few : (v k : ℕ) → v < 2 ^ 64 → bin_of g v ≡ i → k ≡ i / 2 ^ (g.digits - 1) - 1 → k ≤ 64 - (g.unit + g.digits)
  index-few v k small e is =
      elim (cases_lt (64 - (g.unit + g.digits)) (i / 2 ^ (g.digits - 1) - 1)) [
        | inl lt ↦ absurd (omega (arith, index-last lt, e, bin-mono g v (2 ^ 64 - 1) m (omega arith)))
        | inr ge ↦ omega (arith, ge, is)
      ]

  pub index-past : (k : ℕ) → k ≡ i / 2 ^ (g.digits - 1) - 1 → 64 - (g.unit + g.digits) < k → bin_of g (2 ^ 64 - 1) < i
  index-past k e h = index-last (omega arith)

  pub index-value : (k : ℕ) → k ≡ i / 2 ^ (g.digits - 1) - 1 → k ≤ 64 - (g.unit + g.digits)
      → let v = (i - k * 2 ^ (g.digits - 1) % 2 ^ 64) * 2 ^ (g.unit + k) % 2 ^ 64 in (bin_of g v ≡ i) × (lowest_of g v ≡ v)
  index-value k e h =
      let H = 2 ^ (g.digits - 1) in
      let wraps : k * H % 2 ^ 64 ≡ k * H = shl_whole k 7 (g.digits - 1) 64 (omega arith) (omega arith) in
      let q = i - k * H in
      let split = div-add-mod' i H in
      let rest = mod_below i H (pow_pos (g.digits - 1)) in
      let first : k * H ≤ i = omega (arith, mul-le k H (i / H) H (omega arith) (omega arith)) in
      let below : q < 2 ^ g.digits = omega (arith, two-halves g.digits m, mul-le (i / H) H (k + 1) H (omega arith) (omega arith)) in
      let above : 0 < k → H ≤ q = λ (p : 0 < k). omega (arith, mul-le (k + 1) H (i / H) H (omega arith) (omega arith)) in
      let stays : q * 2 ^ (g.unit + k) % 2 ^ 64 ≡ q * 2 ^ (g.unit + k) = shl_whole q g.digits (g.unit + k) 64 below (omega arith) in
      rw (wraps, stays) (value-bin g k q m below above ∙ (let t : k * H + q ≡ i = omega arith in t), value-lowest g k q m below above)

-- the unit's exponent is known by its two bounds
pub unit-is : (low u : ℕ) → 2 ^ u ≤ low → low < 2 * 2 ^ u → unit_of low ≡ u
unfolding unit_of
unit-is low u at_or_below above =
    let p = λ (x : ℕ). ltb low (2 ^ (x + 1)) in
    let passes : p u ≡ true = ltb-from _ _ (rw (pow-add 2 u 1) (omega arith)) in
    let le : least_from p 0 low ≤ u = least_from-le p low 0 u (omega arith) passes in
    let found : p (least_from p 0 low) ≡ true = least_from-passes p low 0 u (omega arith) (omega (arith, below_own_power u)) passes in
    let end : low < 2 ^ (least_from p 0 low + 1) = ltb-to _ _ found in
    elim (cases_lt (least_from p 0 low) u) [
      | inl lt ↦ absurd (omega (arith, pow_mono_le (least_from p 0 low + 1) u (omega arith)))
      | inr ge ↦ omega arith
    ]

-- the greatest number shifted down is all ones
pub ones-shifted : (e : ℕ) → e ≤ 64 → (2 ^ 64 - 1) / 2 ^ (64 - e) ≡ 2 ^ e - 1
ones-shifted e h =
    let k = 64 - e in
    let whole : e + k ≡ 64 = omega arith in
    let split : 2 ^ 64 - 1 ≡ (2 ^ e - 1) * 2 ^ k + (2 ^ k - 1) = rw whole at (ones_split e k) in
    ap (λ (n : ℕ). n / 2 ^ k) split ∙ div-mul-add (2 ^ e - 1) (2 ^ k) (2 ^ k - 1) (omega (arith, pow_pos k))

-- blocks of at most 2 ^ 17 bins, as many as the buckets of 64 bits and one more
pub blocks-most : (u m b : ℕ) → u + m + b ≤ 65 → m ≤ 18 → (b + 1) * 2 ^ (m - 1) ≤ most_bins
blocks-most u m b fits few =
    elim (cases_lt m 18) [
      | inl lt ↦ omega (arith, mul-le (b + 1) (2 ^ (m - 1)) 66 (2 ^ 16) (omega arith) (pow_mono_le (m - 1) 16 (omega arith)))
      | inr ge ↦ omega (arith, mul-le (b + 1) (2 ^ (m - 1)) 48 (2 ^ 17) (omega arith) (pow_mono_le (m - 1) 17 (omega arith)))
    ]
