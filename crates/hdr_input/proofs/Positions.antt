-- Positions of numbers, and whether numbers are before the end of a bound.
use Rattle.std.proofs.Common.{◌≡◌, ℕ, ◌+◌, ◌-◌, ◌*◌, ◌/◌, ◌%◌, ◌^◌, ◌<◌, ◌≤◌, Bool, true, false, min, refl, sym, ap, ◌∙◌, arith, inl, inr, lit<}
use Rattle.std.specs.Prelude.{nat_lt, nat_le}
use Rattle.std.proofs.lemmas.Nat.{div-add-mod', div-mul-add, mod-mul-add, pow-add}
use Rattle.std.proofs.lemmas.Bool.{cases_lt}
use Rattle.std.proofs.lemmas.Bool.Decides.{nat_tests}
use Rattle.std.specs.Prelude.{if◌then◌else◌}
use Rattle.std.proofs.Math.Nat.{div-eq_of_lt, mod-eq_of_lt, mul_comm, mul_assoc, mul-lt-mul_of_pos_right, mul-le-mul_right, div-lt_iff_lt-mul}
use Rattle.hdr_input.proofs.InUnits.{positive}
use Rattle.hdr_input.specs.declared.number.Number.{Number}
use Rattle.hdr_input.specs.declared.bound.Bound.{Bound}
use Rattle.hdr_input.specs.Bounds.{position_of, is_within, end_of}

-- 10 ^ 18 in two factors
split18 : (k : ℕ) → k ≤ 18 → 10 ^ 18 ≡ 10 ^ (18 - k) * 10 ^ k
split18 k le = ap (λ n. 10 ^ n) (let e : 18 ≡ (18 - k) + k = omega arith in e) ∙ pow-add 10 (18 - k) k

-- a number of few decimals is an integer of units of 10 ^ -18
whole18 : (x k : ℕ) → k ≤ 18 → x * 10 ^ 18 ≡ (x * 10 ^ (18 - k)) * 10 ^ k + 0
whole18 x k le =
    let e : x * 10 ^ 18 ≡ (x * 10 ^ (18 - k)) * 10 ^ k = ap (λ t. x * t) (split18 k le) ∙ sym (mul_assoc x (10 ^ (18 - k)) (10 ^ k)) in
    omega (arith, e)

twice : (N K units : ℕ) → 0 < K → N ≡ units * K + 0 → 2 * (N / K) + min 1 (N % K) ≡ 2 * units
twice N K units pos e =
    let d : N / K ≡ units = ap (λ n. n / K) e ∙ div-mul-add units K 0 pos in
    let m : N % K ≡ 0 = ap (λ n. n % K) e ∙ mod-mul-add units K 0 pos in
    omega (arith, d, m)

-- a number of few decimals
pub position_few : (x k : ℕ) → k ≤ 18 → position_of (record { digits = x; decimals = k }) ≡ 2 * (x * 10 ^ (18 - k))
unfolding position_of
position_few x k le = twice (x * 10 ^ 18) (10 ^ k) (x * 10 ^ (18 - k)) (positive k) (whole18 x k le)

-- N / D, rounded down, and what is left, beside a whole number G
lt_whole : (N D G : ℕ) → 0 < D → N < G * D → 2 * (N / D) + min 1 (N % D) < 2 * G
lt_whole N D G pos lt =
    let below : N / D < G = (div-lt_iff_lt-mul {k = D} {x = N} {y = G} pos).1 lt in
    omega (arith, below)

ge_whole : (N D G : ℕ) → 0 < D → G * D ≤ N → 2 * G ≤ 2 * (N / D) + min 1 (N % D)
ge_whole N D G pos ge =
    elim (cases_lt (N / D) G) [
      | inl lt ↦ let l : N < G * D = (div-lt_iff_lt-mul {k = D} {x = N} {y = G} pos).0 lt in absurd (omega (arith, l, ge))
      | inr le ↦ omega (arith, le)
    ]

le_whole : (N D G : ℕ) → 0 < D → N ≤ G * D → 2 * (N / D) + min 1 (N % D) < 2 * G + 1
le_whole N D G pos le =
    let split = div-add-mod' N D in
    elim (cases_lt (N / D) G) [
      | inl lt ↦ omega (arith, lt)
      | inr ge ↦
          elim (cases_lt G (N / D)) [
            | inl more ↦ let l : G * D < N / D * D = mul-lt-mul_of_pos_right more pos in absurd (omega (arith, l, split, le))
            | inr at ↦ (
                let same : N / D ≡ G = omega (arith, ge, at) in
                let part : N / D * D ≡ G * D = ap (λ q. q * D) same in
                omega (arith, same, part, split, le)
                )
          ]
    ]

gt_whole : (N D G : ℕ) → 0 < D → G * D < N → 2 * G + 1 ≤ 2 * (N / D) + min 1 (N % D)
gt_whole N D G pos gt =
    let split = div-add-mod' N D in
    let least = ge_whole N D G pos (omega (arith, gt)) in
    elim (cases_lt G (N / D)) [
      | inl more ↦ omega (arith, more)
      | inr at ↦ (
          let same : N / D ≡ G = omega (arith, at, least) in
          let part : N / D * D ≡ G * D = ap (λ q. q * D) same in
          omega (arith, same, part, split, gt)
          )
    ]

-- both sides of a comparison, in units of 10 ^ -18
left18 : (x k : ℕ) → k ≤ 18 → (x * 10 ^ k) * 10 ^ (18 - k) ≡ x * 10 ^ 18
left18 x k le =
    mul_assoc x (10 ^ k) (10 ^ (18 - k)) ∙ ap (λ t. x * t) (mul_comm (10 ^ k) (10 ^ (18 - k)) ∙ sym (split18 k le))

right18 : (g D C : ℕ) → (g * D) * C ≡ (g * C) * D
right18 g D C = mul_assoc g D C ∙ ap (λ t. g * t) (mul_comm D C) ∙ sym (mul_assoc g C D)

scaled_lt : (a b C N G : ℕ) → 0 < C → a * C ≡ N → b * C ≡ G → a < b → N < G
scaled_lt a b C N G pos left right lt =
    let l : a * C < b * C = mul-lt-mul_of_pos_right lt pos in omega (arith, l, left, right)

scaled_le : (a b C N G : ℕ) → a * C ≡ N → b * C ≡ G → a ≤ b → N ≤ G
scaled_le a b C N G left right le =
    let l : a * C ≤ b * C = mul-le-mul_right C le in omega (arith, l, left, right)

lt_test : (a b p e : ℕ) → (a < b → p < e) → (b ≤ a → e ≤ p) → nat_lt a b ≡ nat_lt p e
lt_test a b p e if_lt if_ge = elim (cases_lt a b) [ inl lt ↦ (let l = if_lt lt in grind (arith, nat_tests)) | inr ge ↦ (let g = if_ge ge in grind (arith, nat_tests)) ]

le_test : (a b p e : ℕ) → (a ≤ b → p < e) → (b < a → e ≤ p) → nat_le a b ≡ nat_lt p e
le_test a b p e if_le if_gt = elim (cases_lt b a) [ inl lt ↦ (let g = if_gt lt in grind (arith, nat_tests)) | inr ge ↦ (let l = if_le ge in grind (arith, nat_tests)) ]

below_test : (x dx g k : ℕ) → k ≤ 18
    → nat_lt (x * 10 ^ k) (g * 10 ^ dx) ≡ nat_lt (2 * (x * 10 ^ 18 / 10 ^ dx) + min 1 (x * 10 ^ 18 % 10 ^ dx)) (2 * (g * 10 ^ (18 - k)))
below_test x dx g k le =
    let C : ℕ = 10 ^ (18 - k) in
    let D : ℕ = 10 ^ dx in
    lt_test (x * 10 ^ k) (g * 10 ^ dx) (2 * (x * 10 ^ 18 / 10 ^ dx) + min 1 (x * 10 ^ 18 % 10 ^ dx)) (2 * (g * 10 ^ (18 - k)))
    (λ lt. lt_whole (x * 10 ^ 18) D (g * C) (positive dx) (scaled_lt (x * 10 ^ k) (g * D) C (x * 10 ^ 18) (g * C * D) (positive (18 - k)) (left18 x k le) (right18 g D C) lt))
    (λ ge. ge_whole (x * 10 ^ 18) D (g * C) (positive dx) (scaled_le (g * D) (x * 10 ^ k) C (g * C * D) (x * 10 ^ 18) (right18 g D C) (left18 x k le) ge))

at_most_test : (x dx g k : ℕ) → k ≤ 18
    → nat_le (x * 10 ^ k) (g * 10 ^ dx) ≡ nat_lt (2 * (x * 10 ^ 18 / 10 ^ dx) + min 1 (x * 10 ^ 18 % 10 ^ dx)) (2 * (g * 10 ^ (18 - k)) + 1)
at_most_test x dx g k le =
    let C : ℕ = 10 ^ (18 - k) in
    let D : ℕ = 10 ^ dx in
    le_test (x * 10 ^ k) (g * 10 ^ dx) (2 * (x * 10 ^ 18 / 10 ^ dx) + min 1 (x * 10 ^ 18 % 10 ^ dx)) (2 * (g * 10 ^ (18 - k)) + 1)
    (λ l. le_whole (x * 10 ^ 18) D (g * C) (positive dx) (scaled_le (x * 10 ^ k) (g * D) C (x * 10 ^ 18) (g * C * D) (left18 x k le) (right18 g D C) l))
    (λ gt. gt_whole (x * 10 ^ 18) D (g * C) (positive dx) (scaled_lt (g * D) (x * 10 ^ k) C (g * C * D) (x * 10 ^ 18) (positive (18 - k)) (right18 g D C) (left18 x k le) gt))

place : (x : Number) (e : ℕ) → nat_lt (2 * (x.digits * 10 ^ 18 / 10 ^ x.decimals) + min 1 (x.digits * 10 ^ 18 % 10 ^ x.decimals)) e ≡ nat_lt (position_of x) e
unfolding position_of
place x e = refl

-- both tests, by whether a number at the level is included
either_test : (i : Bool) (x dx g k : ℕ) → k ≤ 18
    → (if i then nat_le (x * 10 ^ k) (g * 10 ^ dx) else nat_lt (x * 10 ^ k) (g * 10 ^ dx))
    ≡ nat_lt (2 * (x * 10 ^ 18 / 10 ^ dx) + min 1 (x * 10 ^ 18 % 10 ^ dx)) (2 * (g * 10 ^ (18 - k)) + (if i then 1 else 0))
either_test true x dx g k le = at_most_test x dx g k le
either_test false x dx g k le =
    below_test x dx g k le
    ∙ ap (λ e. nat_lt (2 * (x * 10 ^ 18 / 10 ^ dx) + min 1 (x * 10 ^ 18 % 10 ^ dx)) e)
    (let e : 2 * (g * 10 ^ (18 - k)) ≡ 2 * (g * 10 ^ (18 - k)) + 0 = omega arith in e)

-- a number is within a bound if it is before its end
pub within_before : (b : Bound) (x : Number) → b.number.decimals ≤ 18 → is_within b x ≡ nat_lt (position_of x) (end_of b)
within_before b x le =
    either_test b.is_included x.digits x.decimals b.number.digits b.number.decimals le
    ∙ place x (2 * (b.number.digits * 10 ^ (18 - b.number.decimals)) + (if b.is_included then 1 else 0))
    ∙ ap (λ p. nat_lt (position_of x) (p + (if b.is_included then 1 else 0))) (sym (position_few b.number.digits b.number.decimals le))

-- what is less than the divisor is left
pub none_past : (N D : ℕ) → N < D → 2 * (N / D) + min 1 (N % D) ≡ min N 1
none_past N D lt =
    let d : N / D ≡ 0 = div-eq_of_lt lt in
    let m : N % D ≡ N = mod-eq_of_lt lt in
    omega (arith, d, m)

odd_place : (q : ℕ) → position_of (record { digits = 10 * q + 1; decimals = 19 }) ≡ 2 * q + 1
unfolding position_of
odd_place q =
    let e : (10 * q + 1) * 10 ^ 18 ≡ q * 10 ^ 19 + 10 ^ 18 = omega arith in
    let d : (10 * q + 1) * 10 ^ 18 / 10 ^ 19 ≡ q = ap (λ n. n / 10 ^ 19) e ∙ div-mul-add q (10 ^ 19) (10 ^ 18) (lit< tt) in
    let m : (10 * q + 1) * 10 ^ 18 % 10 ^ 19 ≡ 10 ^ 18 = ap (λ n. n % 10 ^ 19) e ∙ mod-mul-add q (10 ^ 19) (10 ^ 18) (lit< tt) in
    omega (arith, d, m)

-- each position is that of a number
pub some_place : (p : ℕ) → (x : Number) × (position_of x ≡ p)
some_place p =
    let split = div-add-mod' p 2 in
    elim (cases_lt (p % 2) 1) [
      | inl even ↦ (record { digits = p / 2; decimals = 18 }, position_few (p / 2) 18 (omega arith) ∙ (let e : 2 * (p / 2 * 10 ^ (18 - 18)) ≡ p = omega (arith, split, even) in e))
      | inr odd ↦ (record { digits = 10 * (p / 2) + 1; decimals = 19 }, odd_place (p / 2) ∙ (let e : 2 * (p / 2) + 1 ≡ p = omega (arith, split, odd) in e))
    ]
