-- The test of a tick against a running count, in numbers that fit 128 bits.
use Rattle.std.proofs.Common.{◌≡◌, ℕ, ◌+◌, ◌-◌, ◌*◌, ◌/◌, ◌<◌, ◌≤◌, ◌↔◌, ⊎_elim, arith}
use Rattle.std.proofs.lemmas.Bool.{cases_lt}
use Rattle.std.proofs.Math.Nat.{div-lt_iff_lt-mul, mul-le-mul_right, mul-le-mul_left}

div_le : (x y s : ℕ) → 1 ≤ s → y * s ≤ x → y ≤ x / s
div_le x y s p l =
    ⊎_elim (λ (lt : x / s < y). absurd (omega (arith, (div-lt_iff_lt-mul {k = s} {x = x} {y = y} p).0 lt, l))) (λ (ge : y ≤ x / s). ge) (cases_lt (x / s) y)

le_div : (x y s : ℕ) → 1 ≤ s → y ≤ x / s → y * s ≤ x
le_div x y s p l =
    ⊎_elim (λ (lt : x < y * s). absurd (omega (arith, (div-lt_iff_lt-mul {k = s} {x = x} {y = y} p).1 lt, l))) (λ (ge : y * s ≤ x). ge) (cases_lt x (y * s))

-- with what is after the tick, d of d + e, and what is after the count, a of a + r
pub cross : (a r d e : ℕ) → e * (a + r) ≤ r * (d + e) → a * (d + e) ≤ d * (a + r)
cross a r d e h = omega (arith, h)

cross_back : (a r d e : ℕ) → a * (d + e) ≤ d * (a + r) → e * (a + r) ≤ r * (d + e)
cross_back a r d e h = omega (arith, h)

-- the tick `(whole - d) / whole` is at most r / n if and only if n - r is at most `floor(d * n / whole)`
pub tick_test : (whole d n r : ℕ) → 1 ≤ whole → d ≤ whole → r ≤ n → ((whole - d) * n ≤ r * whole) ↔ (n - r ≤ d * n / whole)
tick_test whole d n r p l m =
    let n_is : n - r + r ≡ n = omega arith in
    let w_is : d + (whole - d) ≡ whole = omega arith in (
      λ h.
          let g : (whole - d) * (n - r + r) ≤ r * (d + (whole - d)) = rw (n_is, w_is) h in
          let c : (n - r) * (d + (whole - d)) ≤ d * (n - r + r) = cross (n - r) r d (whole - d) g in
          let c' : (n - r) * whole ≤ d * n = rw (w_is, n_is) at c in
          div_le (d * n) (n - r) whole p c',
      λ h.
          let c : (n - r) * whole ≤ d * n = le_div (d * n) (n - r) whole p h in
          let g : (n - r) * (d + (whole - d)) ≤ d * (n - r + r) = rw (w_is, n_is) c in
          let b : (whole - d) * (n - r + r) ≤ r * (d + (whole - d)) = cross_back (n - r) r d (whole - d) g in
          rw (n_is, w_is) at b,
    )

-- a tick at most r / n, for r below n, has no more halvings than n has bits
pub few_halvings : (t q d n r : ℕ) → 1 ≤ t → d ≤ 2 * t → r < n → (n - r) * (t * (2 * q)) ≤ d * n → q ≤ n
few_halvings t q d n r p l m h =
    let a : 1 * (t * (2 * q)) ≤ (n - r) * (t * (2 * q)) = mul-le-mul_right (t * (2 * q)) (omega arith) in
    let b : d * n ≤ 2 * t * n = mul-le-mul_right n l in
    let c : t * (2 * q) ≤ t * (2 * n) = omega (arith, a, b, h) in
    ⊎_elim
    (λ (lt : n < q).
    let e : n + 1 ≤ q = omega arith in
    let f : t * (n + 1) ≤ t * q = mul-le-mul_left t e in
    absurd (omega (arith, c, f, p)))
    (λ (ge : q ≤ n). ge)
    (cases_lt n q)
