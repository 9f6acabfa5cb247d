-- The significant digits of decimals.
use Rattle.std.proofs.Common.{◌≡◌, ℕ, ◌+◌, ◌*◌, ◌^◌, ◌≤◌, arith, ap, ◌∙◌, sym, add-one}
use Rattle.std.proofs.Math.Nat.{pow-suc, pow-le-pow_right, mul-le-mul_right, mul_assoc}
use Rattle.hdr_draw.specs.Numbers.{IsNearest}

-- a thousand parts of the next size
pub from_thousand : (num den i n : ℕ) → IsNearest num den (10 ^ (i + 1)) n → 1000 ≤ n → 1999 * den ≤ 20 * (num * 10 ^ i)
from_thousand num den i n near l =
    let s : 10 ^ (i + 1) ≡ 10 ^ i * 10 = rw add-one (pow-suc 10 i) in
    let t : num * 10 ^ (i + 1) ≡ num * 10 ^ i * 10 = ap (λ k. num * k) s ∙ sym (mul_assoc num (10 ^ i) 10) in
    let m : 1000 * den ≤ n * den = mul-le-mul_right den l in
    omega (arith, near.not_above)

pub power_within : (i : ℕ) → i ≤ 9 → 10 ^ i ≤ 10 ^ 9
power_within i h = let p : 10 ^ i ≤ 10 ^ 9 = pow-le-pow_right {n = 10} (omega arith) h in p
