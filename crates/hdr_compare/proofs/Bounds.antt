-- Bounds of products.
use Rattle.std.proofs.Common.{◌≡◌, ℕ, ◌+◌, ◌-◌, ◌*◌, ◌/◌, ◌^◌, ◌<◌, ◌≤◌, arith, rules}
use Rattle.std.proofs.Math.Nat.{mul-le-mul, mul-le-mul_right, div-le_of_le-mul}
use Rattle.std.proofs.lemmas.Nat.{pow-add, pow_pos}
use Rattle.std.specs.Int.{div_ceil}
use Rattle.hdr_model.proofs.QuantilesValues.{ceil-le}

-- the square of a factor times a difference of values fits
pub square-fits : (factor d : ℕ) → factor ≤ 10000000 → d < 2 ^ 40 → factor * d * (factor * d) < 2 ^ 127
square-fits factor d few small =
    let within : d ≤ 2 ^ 40 = omega (arith, small) in
    let side : factor * d ≤ 10000000 * 2 ^ 40 = mul-le-mul few within in
    let both : factor * d * (factor * d) ≤ 10000000 * 2 ^ 40 * (10000000 * 2 ^ 40) = mul-le-mul side side in
    omega (arith, both)

-- twice as many samples as are expected, and a rank, are at most three times the samples
pub near-fits : (n num den rank : ℕ) → num ≤ den → rank ≤ n → 2 * num * n + rank * den ≤ 3 * den * n
near-fits n num den rank proper inside =
    let one : num * n ≤ den * n = mul-le-mul_right n proper in
    let other : rank * den ≤ n * den = mul-le-mul_right den inside in
    omega (arith, one, other)

pub whole-fits : (n den : ℕ) → n ≤ 2 ^ 30 → den ≤ 1000000 → 3 * den * n ≤ 3 * 1000000 * 2 ^ 30
whole-fits n den few small =
    let three : 3 * den ≤ 3 * 1000000 = omega (arith, small) in
    mul-le-mul three few

-- what a distance has to reach fits
pub reach-fits : (z near whole : ℕ) → z ≤ 4418 → near ≤ whole → whole ≤ 3 * 1000000 * 2 ^ 30 → z * z * near * (whole - near) < 2 ^ 128
reach-fits z near whole small one most =
    let normal : z * z ≤ 4418 * 4418 = mul-le-mul small small in
    let first : near ≤ 3 * 1000000 * 2 ^ 30 = omega (arith, one, most) in
    let second : whole - near ≤ 3 * 1000000 * 2 ^ 30 = omega (arith, most) in
    let three : z * z * near ≤ 4418 * 4418 * (3 * 1000000 * 2 ^ 30) = mul-le-mul normal first in
    let all : z * z * near * (whole - near) ≤ 4418 * 4418 * (3 * 1000000 * 2 ^ 30) * (3 * 1000000 * 2 ^ 30) = mul-le-mul three second in
    omega (arith, all)

-- samples over a power of two
power_of_sum : (s : ℕ) → 2 ^ (30 + s) ≡ 2 ^ s * 2 ^ 30
power_of_sum s = search (rules, pow-add 2 30 s)

pub few_of_shift : (n s : ℕ) → n ≤ 2 ^ (30 + s) → n / 2 ^ s ≤ 2 ^ 30
few_of_shift n s few =
    let within : n ≤ 2 ^ s * 2 ^ 30 = search (rules, few, power_of_sum s) in
    div-le_of_le-mul (2 ^ s) within

pub few_above_shift : (n s : ℕ) → n ≤ 2 ^ (30 + s) → div_ceil n (2 ^ s) ≤ 2 ^ 30
few_above_shift n s few =
    let within : n ≤ 2 ^ 30 * 2 ^ s = search (rules, few, power_of_sum s) in
    ceil-le n (2 ^ s) (2 ^ 30) (pow_pos s) within
