-- The laws of classes.
use Rattle.std.proofs.Common.{◌≡◌, ℕ, zero, suc, ◌+◌, ◌-◌, ◌*◌, ◌/◌, ◌^◌, ◌<◌, ◌≤◌, true, ltb, sym, ap, ◌∙◌, arith, add-zero, inl, inr}
use Rattle.std.proofs.lemmas.Bool.Decides.{nat_tests}
use Rattle.std.proofs.lemmas.Bool.{cases_lt}
use Rattle.std.proofs.Math.Numerals.{sub-one}
use Rattle.std.proofs.lemmas.Nat.{mul-le, div-mul-add, pow_pos, pow-add, div-add-mod', mod_below, div_below, le-div}
use Rattle.std.proofs.Math.Nat.{mul-le-mul_left, pow-suc}
use Rattle.hdr_base.specs.Classes.{Resolution, bucket, width_of, lowest_of, top_of, bin_of}
use Rattle.hdr_base.proofs.ClassesLeast.{least_from-passes, least_from-le}

-- a number is below the power of two of itself
pub below_own_power : (n : ℕ) → n < 2 ^ n
below_own_power zero = omega arith
below_own_power (suc n) = omega (arith, below_own_power n, pow-suc 2 n)

pub ltb-from : (a b : ℕ) → a < b → ltb a b ≡ true
ltb-from a b h = grind (arith, nat_tests)

pub ltb-to : (a b : ℕ) → ltb a b ≡ true → a < b
ltb-to a b h = grind (arith, nat_tests)

pub pow_mono_le : (i j : ℕ) → i ≤ j → 2 ^ i ≤ 2 ^ j
pow_mono_le i j h =
    let d : j ≡ i + (j - i) = omega arith in
    let e : 2 ^ j ≡ 2 ^ i * 2 ^ (j - i) = ap (λ (x : ℕ). 2 ^ x) d ∙ pow-add 2 i (j - i) in
    omega (arith, mul-le-mul_left (2 ^ i) (pow_pos (j - i)))

-- a value is below the end of its bucket
pub bucket-end : (g : Resolution) (v : ℕ) → v < 2 ^ (g.unit + g.digits + bucket g v)
unfolding bucket
bucket-end g v =
    ltb-to _ _ (least_from-passes (λ k. ltb v (2 ^ (g.unit + g.digits + k))) v 0 v (omega arith) (omega arith)
    (ltb-from _ _ (omega (arith, below_own_power v, pow_mono_le v (g.unit + g.digits + v) (omega arith)))))

-- and that bucket is the least such
pub bucket-least : (g : Resolution) (v j : ℕ) → v < 2 ^ (g.unit + g.digits + j) → bucket g v ≤ j
unfolding bucket
bucket-least g v j h = least_from-le (λ k. ltb v (2 ^ (g.unit + g.digits + k))) v 0 j (omega arith) (ltb-from _ _ h)

-- the bucket before starts at or below the value
pub bucket-begin : (g : Resolution) (v : ℕ) → 0 < bucket g v → 2 ^ (g.unit + g.digits + (bucket g v - 1)) ≤ v
bucket-begin g v h =
    elim (cases_lt v (2 ^ (g.unit + g.digits + (bucket g v - 1)))) [
      | inl lt ↦ (let l : bucket g v ≤ bucket g v - 1 = bucket-least g v (bucket g v - 1) lt in absurd (omega arith))
      | inr le ↦ le
    ]

-- a bucket is known by its ends
pub bucket-is : (g : Resolution) (v k : ℕ) → v < 2 ^ (g.unit + g.digits + k) → (0 < k → 2 ^ (g.unit + g.digits + (k - 1)) ≤ v) → bucket g v ≡ k
bucket-is g v k below above =
    let le : bucket g v ≤ k = bucket-least g v k below in
    let ends = bucket-end g v in
    elim (cases_lt (bucket g v) k) [
      | inl lt ↦ (
          let m = pow_mono_le (g.unit + g.digits + bucket g v) (g.unit + g.digits + (k - 1)) (omega arith) in
          let a : 2 ^ (g.unit + g.digits + (k - 1)) ≤ v = above (omega arith) in
          absurd (omega arith)
          )
      | inr ge ↦ omega arith
    ]

module _ (g : Resolution) (v : ℕ) where
  -- the width is a power of two
  pub width-pos : 0 < width_of g v
  unfolding width_of
  width-pos = pow_pos _

  pub end-as-product : (k : ℕ) → 2 ^ (g.unit + g.digits + k) ≡ 2 ^ g.digits * 2 ^ (g.unit + k)
  end-as-product k =
      let e : g.unit + g.digits + k ≡ g.digits + (g.unit + k) = omega arith in
      ap (λ (x : ℕ). 2 ^ x) e ∙ pow-add 2 g.digits (g.unit + k)

  -- the index of a value's class within its bucket is below 2 ^ digits
  pub place-below : v / width_of g v < 2 ^ g.digits
  unfolding width_of
  place-below = div_below v (2 ^ (g.unit + bucket g v)) (2 ^ g.digits) (pow_pos _) (rw (end-as-product (bucket g v)) at (bucket-end g v))

  -- and after the first bucket it is in the second half
  pub place-above : 0 < g.digits → 0 < bucket g v → 2 ^ (g.digits - 1) ≤ v / width_of g v
  unfolding width_of
  place-above m k =
      let e : g.unit + g.digits + (bucket g v - 1) ≡ (g.digits - 1) + (g.unit + bucket g v) = omega arith in
      let p : 2 ^ (g.unit + g.digits + (bucket g v - 1)) ≡ 2 ^ (g.digits - 1) * 2 ^ (g.unit + bucket g v) =
      ap (λ (x : ℕ). 2 ^ x) e ∙ pow-add 2 (g.digits - 1) (g.unit + bucket g v) in
      le-div (2 ^ (g.digits - 1)) v (2 ^ (g.unit + bucket g v)) (pow_pos _) (rw p at (bucket-begin g v k))

  -- the lowest value of a class is a multiple of the width
  pub lowest-as-product : lowest_of g v ≡ v / width_of g v * width_of g v
  unfolding lowest_of
  lowest-as-product = omega (arith, div-add-mod' v (width_of g v))

  pub lowest-le : lowest_of g v ≤ v
  unfolding lowest_of
  lowest-le = omega arith

  pub top-above : v < lowest_of g v + width_of g v
  unfolding lowest_of
  top-above = omega (arith, mod_below v (width_of g v) width-pos)

  pub top-of-value : v ≤ top_of g v
  unfolding top_of
  top-of-value = omega (arith, top-above)

-- a power of two is twice the one before
pub two-halves : (m : ℕ) → 0 < m → 2 ^ m ≡ 2 ^ (m - 1) + 2 ^ (m - 1)
two-halves zero h = absurd (omega arith)
two-halves (suc n) h = rw sub-one (omega (arith, pow-suc 2 n))

-- each value of a class has that class
module _ (g : Resolution) (v x : ℕ) where
  product-below : x < lowest_of g v + width_of g v → x < 2 ^ (g.unit + g.digits + bucket g v)
  unfolding width_of
  product-below h =
      let w = 2 ^ (g.unit + bucket g v) in
      let row : (v / w + 1) * w ≤ 2 ^ g.digits * w =
      mul-le (v / w + 1) w (2 ^ g.digits) w (omega (arith, place-below g v)) (omega arith) in
      rw (end-as-product g v (bucket g v)) (omega (arith, lowest-as-product g v))

  pub same-bucket : 0 < g.digits → lowest_of g v ≤ x → x < lowest_of g v + width_of g v → bucket g x ≡ bucket g v
  unfolding width_of
  same-bucket m a b =
      bucket-is g x (bucket g v) (product-below b) (λ k.
      let e : g.unit + g.digits + (bucket g v - 1) ≡ (g.digits - 1) + (g.unit + bucket g v) = omega arith in
      let w = 2 ^ (g.unit + bucket g v) in
      let p : 2 ^ (g.unit + g.digits + (bucket g v - 1)) ≡ 2 ^ (g.digits - 1) * w =
      ap (λ (x : ℕ). 2 ^ x) e ∙ pow-add 2 (g.digits - 1) (g.unit + bucket g v) in
      let row : 2 ^ (g.digits - 1) * w ≤ v / w * w = mul-le (2 ^ (g.digits - 1)) w (v / w) w (place-above g v m k) (omega arith) in
      omega (arith, lowest-as-product g v))

  pub same-width : bucket g x ≡ bucket g v → width_of g x ≡ width_of g v
  unfolding width_of
  same-width e = ap (λ (k : ℕ). 2 ^ (g.unit + k)) e

  pub same-place : 0 < g.digits → lowest_of g v ≤ x → x < lowest_of g v + width_of g v → x / width_of g x ≡ v / width_of g v
  same-place m a b =
      let w = width_of g v in
      let same : width_of g x ≡ w = same-width (same-bucket m a b) in
      let is : x ≡ v / w * w + (x - lowest_of g v) = omega (arith, lowest-as-product g v) in
      ap (λ (y : ℕ). x / y) same ∙ ap (λ (y : ℕ). y / w) is ∙ div-mul-add (v / w) w (x - lowest_of g v) (omega arith)

  pub same-bin : 0 < g.digits → lowest_of g v ≤ x → x < lowest_of g v + width_of g v → bin_of g x ≡ bin_of g v
  unfolding bin_of
  same-bin m a b =
      ap (λ (k : ℕ). k * 2 ^ (g.digits - 1) + x / width_of g x) (same-bucket m a b) ∙ ap (λ (q : ℕ). bucket g v * 2 ^ (g.digits - 1) + q) (same-place m a b)

  -- classes of a later bucket have later numbers
  pub bin-later : 0 < g.digits → bucket g v < bucket g x → bin_of g v < bin_of g x
  unfolding bin_of
  bin-later m lt =
      let h = 2 ^ (g.digits - 1) in
      let row : (bucket g v + 1) * h ≤ bucket g x * h = mul-le (bucket g v + 1) h (bucket g x) h (omega arith) (omega arith) in
      omega (arith, place-below g v, place-above g x m (omega arith), two-halves g.digits m)

  bin-in-bucket : bucket g v ≡ bucket g x → v / width_of g v ≤ x / width_of g x → bin_of g v ≤ bin_of g x
  unfolding bin_of
  bin-in-bucket e h = let f : bucket g v * 2 ^ (g.digits - 1) ≡ bucket g x * 2 ^ (g.digits - 1) = ap (λ (k : ℕ). k * 2 ^ (g.digits - 1)) e in omega arith

  pub bin-mono : 0 < g.digits → v ≤ x → bin_of g v ≤ bin_of g x
  bin-mono m h =
      let le : bucket g v ≤ bucket g x = bucket-least g v (bucket g x) (omega (arith, bucket-end g x)) in
      elim (cases_lt (bucket g v) (bucket g x)) [
        | inl lt ↦ omega (arith, bin-later m lt)
        | inr ge ↦ (
            let e : bucket g v ≡ bucket g x = omega arith in
            let w : width_of g x ≡ width_of g v = same-width (sym e) in
            let q : v / width_of g v ≤ x / width_of g v = le-div (v / width_of g v) x (width_of g v) (width-pos g v) (omega (arith, div-add-mod' v (width_of g v))) in
            bin-in-bucket e (rw w q)
            )
      ]

-- two values with one bin have one class
module _ (g : Resolution) (v x : ℕ) where
  bin-bucket : 0 < g.digits → bin_of g v ≡ bin_of g x → bucket g v ≡ bucket g x
  bin-bucket m e =
      elim (cases_lt (bucket g v) (bucket g x)) [
        | inl lt ↦ absurd (omega (arith, bin-later g v x m lt))
        | inr ge ↦ elim (cases_lt (bucket g x) (bucket g v)) [
          | inl lt ↦ absurd (omega (arith, bin-later g x v m lt))
          | inr le ↦ omega arith
        ]
      ]

  pub bin-place : 0 < g.digits → bin_of g v ≡ bin_of g x → v / width_of g v ≡ x / width_of g x
  unfolding bin_of
  bin-place m e =
      let f : bucket g v * 2 ^ (g.digits - 1) ≡ bucket g x * 2 ^ (g.digits - 1) = ap (λ (k : ℕ). k * 2 ^ (g.digits - 1)) (bin-bucket m e) in
      omega arith

  pub bin-width : 0 < g.digits → bin_of g v ≡ bin_of g x → width_of g v ≡ width_of g x
  bin-width m e = same-width g x v (bin-bucket m e)

  pub bin-lowest : 0 < g.digits → bin_of g v ≡ bin_of g x → lowest_of g v ≡ lowest_of g x
  bin-lowest m e =
      lowest-as-product g v ∙ ap (λ (q : ℕ). q * width_of g v) (bin-place m e) ∙ ap (λ (w : ℕ). x / width_of g x * w) (bin-width m e) ∙ sym (lowest-as-product g x)

  pub bin-top : 0 < g.digits → bin_of g v ≡ bin_of g x → top_of g v ≡ top_of g x
  unfolding top_of
  bin-top m e = omega (arith, bin-lowest m e, bin-width m e)

-- a class is one unit wide below 2 ^ (unit + digits)
pub width-of-units : (g : Resolution) (v : ℕ) → v < 2 ^ (g.unit + g.digits) → width_of g v ≡ 2 ^ g.unit
unfolding width_of
width-of-units g v h =
    let none : bucket g v ≤ 0 = bucket-least g v 0 (rw add-zero h) in
    let e : g.unit + bucket g v ≡ g.unit = omega arith in
    ap (λ (k : ℕ). 2 ^ k) e

-- and from there on its lowest value holds the width as often as the digits say
pub width-bound : (g : Resolution) (v most : ℕ) → 0 < g.digits → 2 * most ≤ 2 ^ g.digits → 2 ^ (g.unit + g.digits) ≤ v → width_of g v * most ≤ lowest_of g v
width-bound g v most m enough h =
    let later : 0 < bucket g v = elim (cases_lt 0 (bucket g v)) [
      | inl lt ↦ lt
      | inr le ↦ (
          let none : g.unit + g.digits + bucket g v ≡ g.unit + g.digits = omega arith in
          let e = ap (λ (x : ℕ). 2 ^ x) none in
          absurd (omega (arith, bucket-end g v))
          )
    ] in
    let place : most ≤ v / width_of g v = omega (arith, place-above g v m later, two-halves g.digits m) in
    let w = width_of g v in
    let row : most * w ≤ v / w * w = mul-le most w (v / w) w place (omega arith) in
    omega (arith, lowest-as-product g v)
