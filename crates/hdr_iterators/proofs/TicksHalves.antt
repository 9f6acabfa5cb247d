-- The ticks by halves: which are within a running count.
use Rattle.std.proofs.Common.{◌≡◌, ℕ, ◌+◌, ◌-◌, ◌*◌, ◌/◌, ◌%◌, ◌^◌, ◌<◌, ◌≤◌, suc, true, false, leb, sym, ap, ap₂, ◌∙◌, ⊎_elim, arith}
use Rattle.std.proofs.lemmas.Bool.{false≢true, cases_lt, cases_Bool, leb-true, le-leb}
use Rattle.std.proofs.lemmas.Bool.Decides.{leb_tells}
use Rattle.std.proofs.Math.Nat.{pow-suc, div-lt_iff_lt-mul, mul-le-mul_right, mul-le-mul_left}
use Rattle.std.proofs.Math.Pow.{pow_mono}
use Rattle.hdr_base.specs.Fractions.{Ratio}
use Rattle.hdr_iterators.specs.Places.{tick_of, is_within, ticks_within}
use Rattle.hdr_iterators.proofs.LinearLevels.{div_is}
use Rattle.hdr_iterators.proofs.TicksTests.{tick_test, few_halvings, cross}
use Rattle.hdr_iterators.proofs.TicksFronts.{IsFront, count_past, count_upto, count_le}

-- the number of ticks in all, if each half had as many as this one
pub whole_of : (t q : ℕ) → t * 2 ^ (q + 1) ≡ t * (2 * 2 ^ q)
whole_of t q =
    let u : q + 1 ≡ suc q = omega arith in
    ap (λ k. t * 2 ^ k) u ∙ (ap (λ n. t * n) (pow-suc 2 q) ∙ omega arith)

power_some : (q : ℕ) → 1 ≤ 2 ^ q
power_some q =
    let l : 0 ≤ q = omega arith in
    let z : 2 ^ 0 ≤ 2 ^ q = pow_mono l in
    omega (arith, z)

pub whole_wide : (t q : ℕ) → 2 * t ≤ t * 2 ^ (q + 1)
whole_wide t q =
    let m : t * (2 * 1) ≤ t * (2 * 2 ^ q) =
    let n : 2 * 1 ≤ 2 * 2 ^ q = omega (arith, power_some q) in
    mul-le-mul_left t n in
    omega (arith, whole_of t q, m)

-- the tick of a half and a step
abbrev pub tick_in : ℕ → ℕ → ℕ → Ratio
tick_in t q s = record { num = t * 2 ^ (q + 1) - 2 * t + s; den = t * 2 ^ (q + 1) }

pub tick_at : (t q s : ℕ) → s < t → tick_of t (q * t + s) ≡ tick_in t q s
tick_at t q s l =
    let some : 1 ≤ t = omega (arith, l) in
    let d : (q * t + s) / t ≡ q = div_is (q * t + s) q t some (omega arith) (omega (arith, l)) in
    let e : (q * t + s) / t * t + (q * t + s) % t ≡ q * t + s = omega (arith, some) in
    let f : (q * t + s) / t * t ≡ q * t = ap (λ n. n * t) d in
    let m : (q * t + s) % t ≡ s = omega (arith, e, f) in
    ap₂ (tick_in t) d m

-- each number is that of a half and a step
pub by_half : (t k : ℕ) → 1 ≤ t → k ≡ k / t * t + k % t
by_half t k l = omega (arith, l)

pub step_fits : (t k : ℕ) → 1 ≤ t → k % t < t
step_fits t k l = omega (arith, l)

within_at : (t r n q s : ℕ) → s < t → is_within t r n (q * t + s) ≡ leb ((t * 2 ^ (q + 1) - 2 * t + s) * n) (r * (t * 2 ^ (q + 1)))
within_at t r n q s l = ap (λ (p : Ratio). leb (p.num * n) (r * p.den)) (tick_at t q s l)

-- ticks rise within a half
rises_on : (t r n q s : ℕ) → s + 1 < t → is_within t r n (q * t + (s + 1)) ≡ true → is_within t r n (q * t + s) ≡ true
rises_on t r n q s l e =
    let w : (t * 2 ^ (q + 1) - 2 * t + (s + 1)) * n ≤ r * (t * 2 ^ (q + 1)) = leb-true ((t * 2 ^ (q + 1) - 2 * t + (s + 1)) * n) (r * (t * 2 ^ (q + 1))) (sym (within_at t r n q (s + 1) l) ∙ e) in
    let m : (t * 2 ^ (q + 1) - 2 * t + s) * n ≤ (t * 2 ^ (q + 1) - 2 * t + (s + 1)) * n = mul-le-mul_right n (omega arith) in
    within_at t r n q s (omega (arith, l)) ∙ le-leb ((t * 2 ^ (q + 1) - 2 * t + s) * n) (r * (t * 2 ^ (q + 1))) (omega (arith, w, m))

-- and on to the next one: with x the part before its last slice
half_on : (x y n r w : ℕ) → y ≤ x → 2 * x * n ≤ r * (2 * w) → y * n ≤ r * w
half_on x y n r w l h =
    let m : y * n ≤ x * n = mul-le-mul_right n l in
    let a : 2 * x * n ≡ 2 * (x * n) = omega arith in
    let b : r * (2 * w) ≡ 2 * (r * w) = omega arith in
    omega (arith, m, a, b, h)

rises_over : (t r n q s : ℕ) → s + 1 ≡ t → is_within t r n ((q + 1) * t + 0) ≡ true → is_within t r n (q * t + s) ≡ true
rises_over t r n q s l e =
    let some : 0 < t = omega (arith, l) in
    let w : (t * 2 ^ (q + 1 + 1) - 2 * t + 0) * n ≤ r * (t * 2 ^ (q + 1 + 1)) = leb-true ((t * 2 ^ (q + 1 + 1) - 2 * t + 0) * n) (r * (t * 2 ^ (q + 1 + 1))) (sym (within_at t r n (q + 1) 0 some) ∙ e) in
    let wide = whole_wide t q in
    let twice : t * 2 ^ (q + 1 + 1) ≡ 2 * (t * 2 ^ (q + 1)) = whole_of t (q + 1) ∙ omega arith in
    let x_is : t * 2 ^ (q + 1 + 1) - 2 * t + 0 ≡ 2 * (t * 2 ^ (q + 1) - t) = omega (arith, twice, wide) in
    let v : 2 * (t * 2 ^ (q + 1) - t) * n ≤ r * (2 * (t * 2 ^ (q + 1))) = rw (← x_is, ← twice) w in
    within_at t r n q s (omega (arith, l)) ∙ le-leb ((t * 2 ^ (q + 1) - 2 * t + s) * n) (r * (t * 2 ^ (q + 1))) (half_on (t * 2 ^ (q + 1) - t) (t * 2 ^ (q + 1) - 2 * t + s) n r (t * 2 ^ (q + 1)) (omega (arith, l, wide)) v)

pub within_front : (t r n : ℕ) → 1 ≤ t → IsFront (is_within t r n)
within_front t r n l = λ k e.
    let at = by_half t k l in
    let fits = step_fits t k l in
    ap (is_within t r n) at ∙
    ⊎_elim
    (λ (lt : k % t + 1 < t).
    let on : k / t * t + (k % t + 1) ≡ k + 1 = omega (arith, at) in
    rises_on t r n (k / t) (k % t) lt (ap (is_within t r n) on ∙ e))
    (λ (ge : t ≤ k % t + 1).
    let last : k % t + 1 ≡ t = omega (arith, ge, fits) in
    let on : (k / t + 1) * t + 0 ≡ k + 1 = omega (arith, at, last) in
    rises_over t r n (k / t) (k % t) last (ap (is_within t r n) on ∙ e))
    (cases_lt (k % t + 1) t)

-- the test of the code, with d after the tick
pub within_test : (t r n k d w : ℕ) → 1 ≤ w → r ≤ n → (tick_of t k).num + d ≡ w → (tick_of t k).den ≡ w → is_within t r n k ≡ leb (n - r) (d * n / w)
within_test t r n k d w l m e f =
    let num : (tick_of t k).num ≡ w - d = omega (arith, e) in
    let test = tick_test w d n r l (omega (arith, e)) m in
    let at : is_within t r n k ≡ leb ((w - d) * n) (r * w) = ap₂ (λ a b. leb (a * n) (r * b)) num f in
    at ∙ ⊎_elim
    (λ (y : leb (n - r) (d * n / w) ≡ true). le-leb ((w - d) * n) (r * w) (test.1 (leb-true (n - r) (d * n / w) y)) ∙ sym y)
    (λ (no : leb (n - r) (d * n / w) ≡ false).
    ⊎_elim
    (λ (y : leb ((w - d) * n) (r * w) ≡ true). absurd (false≢true (sym no ∙ le-leb (n - r) (d * n / w) (test.0 (leb-true ((w - d) * n) (r * w) y)))))
    (λ (z : leb ((w - d) * n) (r * w) ≡ false). z ∙ sym no)
    (cases_Bool (leb ((w - d) * n) (r * w))))
    (cases_Bool (leb (n - r) (d * n / w)))

-- the distance from a tick to 1 is at most 1
pub left_within : (w d n : ℕ) → 1 ≤ w → d ≤ w → d * n / w ≤ n
left_within w d n l m =
    let a : d * n ≤ w * n = mul-le-mul_right n m in
    let b : d * n < (n + 1) * w = omega (arith, a, l) in
    omega (arith, (div-lt_iff_lt-mul {k = w} {x = d * n} {y = n + 1} l).1 b)

-- a test by what is left is one by the count
pub leb_turned : (n r f : ℕ) → r ≤ n → f ≤ n → leb (n - r) f ≡ leb (n - f) r
leb_turned n r f l m =
    ⊎_elim
    (λ (y : (leb (n - r) f ≡ true) × (n - r ≤ f)). y.0 ∙ sym (le-leb (n - f) r (omega (arith, y.1, l, m))))
    (λ (no : (leb (n - r) f ≡ false) × (f < n - r)).
    ⊎_elim
    (λ (z : (leb (n - f) r ≡ true) × (n - f ≤ r)). absurd (omega (arith, z.1, no.1, l, m)))
    (λ (z : (leb (n - f) r ≡ false) × (r < n - f)). no.0 ∙ sym z.0)
    (leb_tells (n - f) r))
    (leb_tells (n - r) f)

-- a tick within a running count below the total is in the first 64 halves
pub within_few : (t r n k : ℕ) → 1 ≤ t → r < n → n < 2 ^ 64 → is_within t r n k ≡ true → k < 64 * t
within_few t r n k l m fit e =
    let at = by_half t k l in
    let fits = step_fits t k l in
    let q = k / t in
    let s = k % t in
    let W : ℕ = t * 2 ^ (k / t + 1) in
    let wide : 2 * t ≤ W = whole_wide t (k / t) in
    let w : (t * 2 ^ (k / t + 1) - 2 * t + k % t) * n ≤ r * (t * 2 ^ (k / t + 1)) = leb-true ((t * 2 ^ (k / t + 1) - 2 * t + k % t) * n) (r * (t * 2 ^ (k / t + 1))) (sym (within_at t r n (k / t) (k % t) fits) ∙ (sym (ap (is_within t r n) at) ∙ e)) in
    let d : ℕ = 2 * t - k % t in
    let d_is : d + (t * 2 ^ (k / t + 1) - 2 * t + k % t) ≡ t * 2 ^ (k / t + 1) = omega (arith, wide, fits) in
    let n_is : n - r + r ≡ n = omega (arith, m) in
    let g : (t * 2 ^ (k / t + 1) - 2 * t + k % t) * (n - r + r) ≤ r * (d + (t * 2 ^ (k / t + 1) - 2 * t + k % t)) = rw (n_is, d_is) w in
    let c : (n - r) * (d + (t * 2 ^ (k / t + 1) - 2 * t + k % t)) ≤ d * (n - r + r) = cross (n - r) r d (t * 2 ^ (k / t + 1) - 2 * t + k % t) g in
    let c' : (n - r) * (t * (2 * 2 ^ (k / t))) ≤ d * n = rw (n_is, d_is, whole_of t (k / t)) at c in
    let few : 2 ^ (k / t) ≤ n = few_halvings t (2 ^ (k / t)) d n r l (omega arith) m c' in
    let half : k / t < 64 =
    ⊎_elim
    (λ (lt : k / t < 64). lt)
    (λ (ge : 64 ≤ k / t).
    let b : 2 ^ 64 ≤ 2 ^ (k / t) = pow_mono ge in
    absurd (omega (arith, b, few, fit)))
    (cases_lt (k / t) 64) in
    let top : (k / t + 1) * t ≤ 64 * t = mul-le-mul_right t (omega (arith, half)) in
    omega (arith, top, at, fits)

-- so the count of these determines them
pub within_counted : (t r n k : ℕ) → 1 ≤ t → r < n → n < 2 ^ 64 → is_within t r n k ≡ true → k < ticks_within t r n
within_counted t r n k l m fit e =
    let c : k < 0 + ticks_within t r n = count_past (is_within t r n) (within_front t r n l) (64 * t) 0 k (omega arith) (omega (arith, within_few t r n k l m fit e)) e in
    omega (arith, c)

pub past_counted : (t r n k : ℕ) → 1 ≤ t → is_within t r n k ≡ false → ticks_within t r n ≤ k
past_counted t r n k l e =
    let c : 0 + ticks_within t r n ≤ k = count_upto (is_within t r n) (within_front t r n l) (64 * t) 0 k (omega arith) e in
    omega (arith, c)

pub ticks-le : (t r s n : ℕ) → r ≤ s → ticks_within t r n ≤ ticks_within t s n
ticks-le t r s n l = count_le (is_within t r n) (is_within t s n)
    (λ k e.
    let a : (tick_of t k).num * n ≤ r * (tick_of t k).den = leb-true ((tick_of t k).num * n) (r * (tick_of t k).den) e in
    let b : r * (tick_of t k).den ≤ s * (tick_of t k).den = mul-le-mul_right (tick_of t k).den l in
    le-leb ((tick_of t k).num * n) (s * (tick_of t k).den) (omega (arith, a, b)))
    (64 * t) 0

-- the denominator of a tick fits 128 bits
pub whole_fits : (t h : ℕ) → t < 2 ^ 32 → h ≤ 64 → t * 2 ^ (h + 1) < 2 ^ 128
whole_fits t h l m =
    let n : h + 1 ≤ 65 = omega (arith, m) in
    let o : 2 ^ (h + 1) ≤ 2 ^ 65 = pow_mono n in
    let p : t * 2 ^ (h + 1) ≤ t * 2 ^ 65 = mul-le-mul_left t o in
    omega (arith, p, l)

pub whole_mod : (t h : ℕ) → t < 2 ^ 32 → h ≤ 64 → t * 2 ^ (h + 1) % 2 ^ 128 ≡ t * 2 ^ (h + 1)
whole_mod t h l m = omega (arith, whole_fits t h l m)
