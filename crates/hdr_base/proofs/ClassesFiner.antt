-- Classes by their numbers, and classes of two resolutions.
use Rattle.std.proofs.Common.{◌≡◌, ℕ, ◌+◌, ◌-◌, ◌*◌, ◌/◌, ◌^◌, ◌<◌, ◌≤◌, sym, ap, ◌∙◌, arith, inl, inr}
use Rattle.std.proofs.lemmas.Bool.{cases_lt}
use Rattle.std.proofs.lemmas.Nat.{mul-le, pow_pos, pow-add, div-add-mod', mod_below}
use Rattle.hdr_base.specs.Classes.{Resolution, bucket, width_of, lowest_of, bin_of, value_of, IsFiner}
use Rattle.hdr_base.proofs.ClassesLaws.{pow_mono_le, bucket-end, bucket-begin, two-halves, lowest-as-product, lowest-le, same-bin, bin-lowest, top-above, bin-width}
use Rattle.hdr_base.proofs.ClassesScale.{value-bin, value-lowest, value-width}

module _ (g : Resolution) (i : ℕ) (m : 0 < g.digits) where
  half-parts : let H = 2 ^ (g.digits - 1) in let k = i / H - 1 in (i - k * H < 2 ^ g.digits) × (0 < k → H ≤ i - k * H) × (k * H ≤ i)
  half-parts =
      let H = 2 ^ (g.digits - 1) in
      let k = i / H - 1 in
      let split = div-add-mod' i H in
      let rest = mod_below i H (pow_pos (g.digits - 1)) in (
        omega (arith, two-halves g.digits m, mul-le (i / H) H (k + 1) H (omega arith) (omega arith)),
        (λ (p : 0 < k). omega (arith, mul-le (k + 1) H (i / H) H (omega arith) (omega arith))),
        omega (arith, mul-le k H (i / H) H (omega arith) (omega arith)),
      )

  -- the class of a number's value has that number
  pub bin-value_of : bin_of g (value_of g i) ≡ i
  unfolding value_of
  bin-value_of =
      let H = 2 ^ (g.digits - 1) in
      let k = i / H - 1 in
      value-bin g k (i - k * H) m half-parts.0 half-parts.1 ∙ (let t : k * H + (i - k * H) ≡ i = omega (arith, half-parts.2) in t)

  pub lowest-value_of : lowest_of g (value_of g i) ≡ value_of g i
  unfolding value_of
  lowest-value_of =
      let H = 2 ^ (g.digits - 1) in
      let k = i / H - 1 in
      value-lowest g k (i - k * H) m half-parts.0 half-parts.1

  pub width-value_of : width_of g (value_of g i) ≡ 2 ^ (g.unit + (i / 2 ^ (g.digits - 1) - 1))
  unfolding value_of
  width-value_of =
      let H = 2 ^ (g.digits - 1) in
      let k = i / H - 1 in
      value-width g k (i - k * H) m half-parts.0 half-parts.1

  -- there is one lowest value of a class
  pub value_of-only : (v : ℕ) → bin_of g v ≡ i → lowest_of g v ≡ v → v ≡ value_of g i
  value_of-only v b l = sym l ∙ bin-lowest g v (value_of g i) m (b ∙ sym bin-value_of) ∙ lowest-value_of

-- multiples of a width
multiple-below : (a c w : ℕ) → c * w < (a + 1) * w → c * w ≤ a * w
multiple-below a c w h =
    elim (cases_lt a c) [
      | inl lt ↦ absurd (omega (arith, mul-le (a + 1) w c w (omega arith) (omega arith)))
      | inr ge ↦ mul-le c w a w ge (omega arith)
    ]

module _ (f g : Resolution) (fine : IsFiner f g) (v : ℕ) where
  exponents : f.unit + bucket f v ≤ g.unit + bucket g v
  exponents =
      elim (cases_lt 0 (bucket f v)) [
        | inl some ↦ elim (cases_lt (g.unit + bucket g v) (f.unit + bucket f v)) [
          | inl lt ↦ absurd (omega (
            arith,
            bucket-begin f v some,
            bucket-end g v,
            pow_mono_le (g.unit + g.digits + bucket g v) (f.unit + f.digits + (bucket f v - 1)) (omega (arith, fine.digits)),
          ))
          | inr le ↦ le
        ]
        | inr none ↦ omega (arith, fine.unit)
      ]

  -- the wider width holds the narrower a whole number of times
  width-whole : (q : ℕ) × (width_of g v ≡ q * width_of f v)
  unfolding width_of
  width-whole =
      let d = (g.unit + bucket g v) - (f.unit + bucket f v) in
      let e : g.unit + bucket g v ≡ d + (f.unit + bucket f v) = omega (arith, exponents) in
      (2 ^ d, ap (λ (x : ℕ). 2 ^ x) e ∙ pow-add 2 d (f.unit + bucket f v))

  pub class-inside : 0 < g.digits → (lowest_of g v ≤ lowest_of f v) × (lowest_of f v + width_of f v ≤ lowest_of g v + width_of g v)
  class-inside m =
      let w = width_of f v in
      let q = width-whole.0 in
      let a = v / w in
      let b = v / width_of g v in
      let begin : lowest_of g v ≡ (b * q) * w = lowest-as-product g v ∙ ap (λ (x : ℕ). b * x) width-whole.1 ∙ (let t : b * (q * w) ≡ (b * q) * w = omega arith in t) in
      let end : lowest_of g v + width_of g v ≡ ((b + 1) * q) * w = ap (λ (x : ℕ). x + width_of g v) (lowest-as-product g v) ∙ (let t : b * width_of g v + width_of g v ≡ (b + 1) * width_of g v = omega arith in t) ∙ ap (λ (x : ℕ). (b + 1) * x) width-whole.1 ∙ (let t : (b + 1) * (q * w) ≡ ((b + 1) * q) * w = omega arith in t) in
      let own = lowest-as-product f v in
      let up = top-above f v in
      let up-g = top-above g v in
      let lo = lowest-le f v in
      let lo-g = lowest-le g v in
      let one : (a + 1) * w ≡ a * w + w = omega arith in (
        omega (arith, multiple-below a (b * q) w (omega arith)),
        (let less : a * w < (((b + 1) * q)) * w = omega arith in
            elim (cases_lt a ((b + 1) * q)) [
              | inl lt ↦ omega (arith, mul-le (a + 1) w ((b + 1) * q) w (omega arith) (omega arith))
              | inr ge ↦ absurd (omega (arith, mul-le ((b + 1) * q) w a w ge (omega arith)))
            ]),
      )

-- two values of one class of the finer resolution have one class of the other
pub finer-bin : (f g : Resolution) → IsFiner f g → 0 < f.digits → 0 < g.digits → (x y : ℕ) → bin_of f x ≡ bin_of f y → bin_of g x ≡ bin_of g y
finer-bin f g fine mf mg x y e =
    let inside = class-inside f g fine y mg in
    let low = bin-lowest f x y mf e in
    let wide = bin-width f x y mf e in
    same-bin g y x mg (omega (arith, lowest-le f x)) (omega (arith, top-above f x))
