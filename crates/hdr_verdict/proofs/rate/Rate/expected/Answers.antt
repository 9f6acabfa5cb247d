use Rattle.std.proofs.Common.{ℕ, ◌*◌, ◌/◌, ◌^◌, ◌≤◌, ◌<◌, arith}
use Rattle.std.proofs.Math.Nat.{div-mul-le_self, mul-le-mul_left}
use Rattle.hdr_verdict.proofs.rate.Rate.expected.Goals as goal

halved : (n den time : ℕ) → n < 2 ^ 128 → 2 ≤ den → 1 ≤ time → n / (den * time) < 2 ^ 127
halved n den time small two some =
    let q = n / (den * time) in
    let whole : q * (den * time) ≤ n = div-mul-le_self n (den * time) in
    let least : den * 1 ≤ den * time = mul-le-mul_left den some in
    let more : 2 ≤ den * time = omega arith in
    let twice : q * 2 ≤ q * (den * time) = mul-le-mul_left q more in
    omega arith

pub returns-clause-half : goal.returns-clause-half
returns-clause-half c = λ two. halved c.saturating_mul-samples.result c.args.den c.from-3.result (omega arith) two (omega arith)
