-- Numbers without their last digits, rounded to decimals.
use Rattle.std.proofs.Common.{◌≡◌, ℕ, suc, ◌+◌, ◌-◌, ◌*◌, ◌/◌, ◌%◌, ◌^◌, ◌<◌, ◌≤◌, sym, ap, ◌∙◌, arith, lit<, inl, inr}
use Rattle.std.proofs.lemmas.Bool.{cases_lt}
use Rattle.std.proofs.lemmas.Nat.{pow-add, div-mul-add, div-add-mod', le-div, mod-mul-add}
use Rattle.std.proofs.Math.Nat.{mod-lt, mod-eq_of_lt, mul_comm, pow-suc, pow-le-pow_right, div-eq_of_lt, div-div-eq-div-mul, mul-div-mul_left, mul-le-mul_right, le-mul_of_pos_right}
use Rattle.hdr_input.specs.Numbers.{in_units}
use Rattle.hdr_input.proofs.InUnits.{positive}

-- a quotient rounded half up: one more than rounded down if half of the divisor or more is left
pub quotient_up : (n k : ℕ) → 0 < k → k - k / 2 ≤ n % k → (n + k / 2) / k ≡ n / k + 1
quotient_up n k some more =
    let split = div-add-mod' n k in
    let half : k / 2 ≤ k = omega arith in
    let left : n % k < k = mod-lt n some in
    let same : n + k / 2 ≡ (n / k + 1) * k + (n % k + k / 2 - k) = omega (arith, split, more, half) in
    let small : n % k + k / 2 - k < k = omega (arith, left, half, some) in
    ap (λ m. m / k) same ∙ div-mul-add (n / k + 1) k (n % k + k / 2 - k) small

pub quotient_down : (n k : ℕ) → 0 < k → n % k < k - k / 2 → (n + k / 2) / k ≡ n / k
quotient_down n k some less =
    let split = div-add-mod' n k in
    let same : n + k / 2 ≡ n / k * k + (n % k + k / 2) = omega (arith, split) in
    let small : n % k + k / 2 < k = omega (arith, less) in
    ap (λ m. m / k) same ∙ div-mul-add (n / k) k (n % k + k / 2) small

-- a power of ten beyond 128 bits is more than twice what they hold
pub great_power : (j : ℕ) → 2 ^ 128 ≤ 10 ^ j → 10 ^ 39 ≤ 10 ^ j
great_power j great = elim (cases_lt j 39) [
  | inl few ↦ (let most : 10 ^ j ≤ 10 ^ 38 = pow-le-pow_right (lit< tt) (let l : j ≤ 38 = omega (arith, few) in l) in absurd (omega (arith, most, great)))
  | inr many ↦ pow-le-pow_right (lit< tt) many
]

pub none_left : (n j : ℕ) → n < 2 ^ 128 → 2 ^ 128 ≤ 10 ^ j → (n + 10 ^ j / 2) / 10 ^ j ≡ 0
none_left n j small great =
    let most : 10 ^ 39 ≤ 10 ^ j = great_power j great in
    div-eq_of_lt (let l : n + 10 ^ j / 2 < 10 ^ j = omega (arith, most, small) in l)

-- a power of ten above 1 is even
half_power : (i : ℕ) → 10 ^ suc i ≡ 2 * (5 * 10 ^ i)
half_power i = pow-suc 10 i ∙ (let e : 10 ^ i * 10 ≡ 2 * (5 * 10 ^ i) = omega arith in e)

halves : (J H : ℕ) → J ≡ 2 * H → J / 2 ≡ H
halves J H is = omega (arith, is)

-- to round after digits were dropped is to round at once: of n = q * P + r only q is kept, and q is then divided by J = 2 * H
round_twice : (q r P D J H : ℕ) → r < P → 0 < D → ((q * P + r) * D + D * P * H) / (D * P * J) ≡ (q + H) / J
round_twice q r P D J H small some =
    let sum : (q * P + r) * D + D * P * H ≡ D * ((q + H) * P + r) = omega arith in
    let product : D * P * J ≡ D * (P * J) = omega arith in
    ap (λ m. m / (D * P * J)) sum ∙ ap (λ m. D * ((q + H) * P + r) / m) product ∙ mul-div-mul_left ((q + H) * P + r) (P * J) some
    ∙ sym (div-div-eq-div-mul ((q + H) * P + r) P J) ∙ ap (λ m. m / J) (div-mul-add (q + H) P r small)

-- a number with more decimals than are wanted
pub rounded_below : (n p k d i : ℕ) → k ≡ p + d + suc i → in_units n k d ≡ (n / 10 ^ p + 10 ^ suc i / 2) / 10 ^ suc i
rounded_below n p k d i is =
    let P : ℕ = 10 ^ p in
    let D : ℕ = 10 ^ d in
    let J : ℕ = 10 ^ suc i in
    let H : ℕ = 5 * 10 ^ i in
    let even : J ≡ 2 * H = half_power i in
    let power : 10 ^ k ≡ D * P * J = ap (λ m. 10 ^ m) is ∙ pow-add 10 (p + d) (suc i) ∙ ap (λ m. m * J) (pow-add 10 p d ∙ mul_comm P D) in
    let half : 10 ^ k / 2 ≡ D * P * H = halves (10 ^ k) (D * P * H) (power ∙ ap (λ m. D * P * m) even ∙ (let e : D * P * (2 * H) ≡ 2 * (D * P * H) = omega arith in e)) in
    ap (λ m. (n * D + m) / 10 ^ k) half ∙ ap (λ m. (n * D + D * P * H) / m) power
    ∙ ap (λ m. (m * D + D * P * H) / (D * P * J)) (sym (div-add-mod' n P))
    ∙ round_twice (n / P) (n % P) P D J H (mod-lt n (positive p)) (positive d)
    ∙ ap (λ m. (n / P + m) / J) (sym (halves J H even))

-- the power of ten that digits are multiplied by
same_power : (p k d m : ℕ) → p + d ≡ k + m → 10 ^ p * 10 ^ d ≡ 10 ^ k * 10 ^ m
same_power p k d m is = sym (pow-add 10 p d) ∙ ap (λ e. 10 ^ e) is ∙ pow-add 10 k m

pub in_parts : (n p k d m : ℕ) → p + d ≡ k + m → n * 10 ^ d ≡ n / 10 ^ p * 10 ^ m * 10 ^ k + n % 10 ^ p * 10 ^ d
in_parts n p k d m is =
    let P : ℕ = 10 ^ p in
    let split : n * 10 ^ d ≡ (n / P * P + n % P) * 10 ^ d = ap (λ e. e * 10 ^ d) (sym (div-add-mod' n P)) in
    let powers : n / P * (P * 10 ^ d) ≡ n / P * (10 ^ k * 10 ^ m) = ap (λ e. n / P * e) (same_power p k d m is) in
    omega (arith, split, powers)

-- a number with as many decimals as are wanted, or fewer
pub least_above : (n p k d m : ℕ) → p + d ≡ k + m → n / 10 ^ p * 10 ^ m ≤ in_units n k d
least_above n p k d m is =
    let parts = in_parts n p k d m is in
    le-div (n / 10 ^ p * 10 ^ m) (n * 10 ^ d + 10 ^ k / 2) (10 ^ k) (positive k) (omega (arith, parts))

pub exact_above : (n p k d m : ℕ) → p + d ≡ k + m → n % 10 ^ p ≡ 0 → in_units n k d ≡ n / 10 ^ p * 10 ^ m
exact_above n p k d m is none =
    let parts = in_parts n p k d m is in
    let rest : n % 10 ^ p * 10 ^ d ≡ 0 * 10 ^ d = ap (λ e. e * 10 ^ d) none in
    let some : 0 < 10 ^ k = positive k in
    let same : n * 10 ^ d + 10 ^ k / 2 ≡ n / 10 ^ p * 10 ^ m * 10 ^ k + 10 ^ k / 2 = omega (arith, parts, rest) in
    ap (λ e. e / 10 ^ k) same ∙ div-mul-add (n / 10 ^ p * 10 ^ m) (10 ^ k) (10 ^ k / 2) (omega (arith, some))

pub power_beyond : (e : ℕ) → 2 ^ 32 ≤ e → 2 ^ 128 ≤ 10 ^ e
power_beyond e many = let most : 10 ^ 39 ≤ 10 ^ e = pow-le-pow_right (lit< tt) (let l : 39 ≤ e = omega (arith, many) in l) in omega (arith, most)

pub at_least : (n k : ℕ) → n ≤ n * 10 ^ k
at_least n k = le-mul_of_pos_right n (positive k)

pub product_beyond : (n k : ℕ) → 0 < n → 2 ^ 128 ≤ 10 ^ k → 2 ^ 64 ≤ n * 10 ^ k
product_beyond n k some great = let l : 1 * 10 ^ k ≤ n * 10 ^ k = mul-le-mul_right (10 ^ k) (let e : 1 ≤ n = omega (arith, some) in e) in omega (arith, l, great)

-- what is below a power of ten is left by it
pub below_power : (n k : ℕ) → n < 2 ^ 128 → 2 ^ 128 ≤ 10 ^ k → n % 10 ^ k ≡ n
below_power n k small great = mod-eq_of_lt (let l : n < 10 ^ k = omega (arith, small, great) in l)

-- what both cuts leave
pub rest_twice : (n p j : ℕ) → n % 10 ^ (p + j) ≡ n / 10 ^ p % 10 ^ j * 10 ^ p + n % 10 ^ p
rest_twice n p j =
    let P : ℕ = 10 ^ p in
    let J : ℕ = 10 ^ j in
    let q : ℕ = n / P in
    let split = div-add-mod' n P in
    let again = div-add-mod' q J in
    let left : n % P < P = mod-lt n (positive p) in
    let less : q % J < J = mod-lt q (positive j) in
    let few : q % J + 1 ≤ J = omega (arith, less) in
    let product : (q % J + 1) * P ≤ J * P = mul-le-mul_right P few in
    let whole : q * P ≡ (q / J * J + q % J) * P = ap (λ m. m * P) (sym again) in
    let same : n ≡ q / J * (P * J) + (q % J * P + n % P) = omega (arith, split, whole) in
    let small : q % J * P + n % P < P * J = omega (arith, left, product) in
    ap (λ m. n % m) (pow-add 10 p j) ∙ ap (λ m. m % (P * J)) same ∙ mod-mul-add (q / J) (P * J) (q % J * P + n % P) small
