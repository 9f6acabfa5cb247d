use Rattle.std.proofs.Common.{◌≡◌, ℕ, ◌+◌, ◌-◌, ◌*◌, ◌/◌, ◌<◌, ◌≤◌, arith, sym, subst, ap, ◌∙◌}
use Rattle.std.proofs.lemmas.Nat.{le-div}
use Rattle.std.proofs.Math.Nat.{div-mul-le_self, mul-add, add-mul, mul-le-mul_right, mul_assoc, mul_comm, div-le_of_le-mul}
use Rattle.hdr_draw.specs.Logarithm.{bend}

rises_by : (x d q : ℕ) → 22 * x ≤ q → x * (q + 22 * d) ≤ (x + d) * q
rises_by x d q h =
    let e : x * (q + 22 * d) ≡ x * q + x * (22 * d) = mul-add x q (22 * d) in
    let f : (x + d) * q ≡ x * q + d * q = add-mul x d q in
    let k : (22 * x) * d ≤ q * d = mul-le-mul_right d h in
    let a : x * (22 * d) ≡ (22 * x) * d = sym (mul_assoc x 22 d) ∙ ap (λ n. n * d) (mul_comm x 22) in
    let b : d * q ≡ q * d = mul_comm d q in
    omega arith

-- the curve before the division ascends up to 65,536
pub rises : (x y : ℕ) → x ≤ y → y ≤ 65536 → x * (86 * 65536 - 22 * x) ≤ y * (86 * 65536 - 22 * y)
rises x y h k =
    let d : x + (y - x) ≡ y = omega arith in
    let e : (86 * 65536 - 22 * y) + 22 * (y - x) ≡ 86 * 65536 - 22 * x = omega arith in
    let b : 22 * x ≤ 86 * 65536 - 22 * y = omega arith in
    let r : x * ((86 * 65536 - 22 * y) + 22 * (y - x)) ≤ (x + (y - x)) * (86 * 65536 - 22 * y) = rises_by x (y - x) (86 * 65536 - 22 * y) b in
    let P : ℕ → ℕ → Type 0 = λ n k. x * n ≤ k * (86 * 65536 - 22 * y) in
    let s : P (86 * 65536 - 22 * x) (x + (y - x)) = subst (λ (n : ℕ). P n (x + (y - x))) e r in
    subst (λ (n : ℕ). P (86 * 65536 - 22 * x) n) d s

pub div-le-div : (x y d : ℕ) → 0 < d → x ≤ y → x / d ≤ y / d
div-le-div x y d p h =
    let m : x / d * d ≤ x = div-mul-le_self x d in
    le-div (x / d) y d p (omega arith)

pub bend-ascends : (x y : ℕ) → x ≤ y → y ≤ 65536 → bend x ≤ bend y
unfolding bend
bend-ascends x y h k = div-le-div _ _ (64 * 65536) (omega arith) (rises x y h k)

pub bend_bound : (x : ℕ) → x ≤ 65536 → bend x ≤ 65536
unfolding bend
bend_bound x h = bend-ascends x 65536 h (omega arith)

pub part-bound : (x p : ℕ) → x ≤ p → x * 65536 / p ≤ 65536
part-bound x p h = div-le_of_le-mul p (mul-le-mul_right 65536 h)
