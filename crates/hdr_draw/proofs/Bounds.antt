-- Bounds of rows, by powers.
use Rattle.std.proofs.Common.{◌≡◌, ℕ, ◌+◌, ◌-◌, ◌*◌, ◌^◌, ◌<◌, ◌≤◌, List, length, get_or, le_trans, arith, sym, ap, ◌∙◌}
use Rattle.std.proofs.Math.Nat.{one-le-pow, mul-le-mul, mul_assoc, pow-le-pow_left}
use Rattle.std.proofs.lemmas.Nat.{pow-add}
use Rattle.std.proofs.lemmas.Grind.{pow_more}
use Rattle.hdr_draw.specs.Rows.{Ends, IsBound, IsRow, power_at}

pub power_step : (d p q b k : ℕ) → q ≡ p * b → p ≡ d * b ^ k → q ≡ d * b ^ (k + 1)
power_step d p q b k h i =
    let e : p * b ≡ d * b ^ k * b = ap (λ n. n * b) i in
    let f : d * b ^ k * b ≡ d * (b ^ k * b) = mul_assoc d (b ^ k) b in
    h ∙ e ∙ f ∙ ap (λ n. d * n) (sym (pow_more b k))

pub power_from_1 : (e : Ends) (k one highs : ℕ) → one ≡ 1 → highs ≡ one * e.high ^ k → highs * e.low ^ (40 - k) ≡ power_at e k
unfolding power_at
power_from_1 e k one highs h g = ap (λ n. n * e.low ^ (40 - k)) (g ∙ ap (λ n. n * e.high ^ k) h ∙ omega arith)

pub power_positive : (e : Ends) (k : ℕ) → 0 < e.low → e.low ≤ e.high → 0 < power_at e k
unfolding power_at
power_positive e k p h =
    let a : 1 ≤ e.high ^ k = one-le-pow k e.high (omega arith) in
    let b : 1 ≤ e.low ^ (40 - k) = one-le-pow (40 - k) e.low (omega arith) in
    mul-le-mul a b

pub power_within : (e : Ends) (k : ℕ) → e.low ≤ e.high → k ≤ 40 → power_at e k ≤ e.high ^ 40
unfolding power_at
power_within e k h l =
    let a : e.low ^ (40 - k) ≤ e.high ^ (40 - k) = pow-le-pow_left h (40 - k) in
    let b : e.high ^ k * e.low ^ (40 - k) ≤ e.high ^ k * e.high ^ (40 - k) = mul-le-mul (omega arith) a in
    let s : k + (40 - k) ≡ 40 = omega arith in
    let t : e.high ^ 40 ≡ e.high ^ k * e.high ^ (40 - k) = ap (λ n. e.high ^ n) (sym s) ∙ pow-add e.high k (40 - k) in
    rw t b

pub bounded_by : (e : Ends) (k below bound p : ℕ) → p ≡ power_at e k → below ^ 40 < p → p ≤ bound ^ 40 → bound ≤ below + 1 → IsBound e k bound
bounded_by e k below bound p q h g l = record {
  above = rw (← q) g;
  least = λ value v. let m : value ^ 40 ≤ below ^ 40 = pow-le-pow_left (omega arith) 40 in rw (← q) (omega arith);
}

-- the row of a value is the number of bounds at or below it
pub row_from_bounds : (e : Ends) (bounds : List ℕ) (value row : ℕ) → length bounds ≡ 39
    → ((k : ℕ) → k < 39 → IsBound e (k + 1) (get_or bounds k 0))
    → row ≤ length bounds → ((k : ℕ) → k < row → get_or bounds k 0 ≤ value)
    → (row < length bounds → value < get_or bounds row 0) → IsRow e value row
row_from_bounds e bounds value row n b i h g = record {
  within = omega (arith, n, i);
  above = λ p.
      let s : row - 1 + 1 ≡ row = omega (arith, p) in
      let k : IsBound e (row - 1 + 1) (get_or bounds (row - 1) 0) = b (row - 1) (omega (arith, n, i, p)) in
      let m : get_or bounds (row - 1) 0 ^ 40 ≤ value ^ 40 = pow-le-pow_left (h (row - 1) (omega (arith, p))) 40 in
      le_trans (rw s at k.above) m;
  below = λ p. (b row p).least value (g (omega (arith, n, p)));
}
