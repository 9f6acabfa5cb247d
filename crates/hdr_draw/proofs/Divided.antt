use Rattle.std.proofs.Common.{◌≡◌, ℕ, ◌+◌, ◌*◌, ◌/◌, ◌%◌, ◌^◌, ◌<◌, arith, sym, ap, ◌∙◌, add-one}
use Rattle.std.proofs.Math.Nat.{pow-suc, mul_assoc, mul_comm}

pub divided : (n b p : ℕ) → 0 < b → n % b ≡ 0 → n / b * b ^ (p + 1) ≡ n * b ^ p
divided n b p h e =
    let m : n / b * b ≡ n = omega (arith) in
    let s : b ^ (p + 1) ≡ b ^ p * b = rw add-one (pow-suc b p) in
    let t : b ^ p * b ≡ b * b ^ p = mul_comm (b ^ p) b in
    ap (λ x. n / b * x) (s ∙ t) ∙ sym (mul_assoc (n / b) b (b ^ p)) ∙ ap (λ x. x * b ^ p) m
