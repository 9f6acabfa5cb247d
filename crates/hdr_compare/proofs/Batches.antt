-- Bounds of what is computed of batches.
use Rattle.std.proofs.Common.{◌≡◌, ℕ, ◌+◌, ◌-◌, ◌*◌, ◌/◌, ◌^◌, ◌<◌, ◌≤◌, min, max, List, [], ◌∷◌, rules, arith, inl, inr}
use Rattle.std.specs.List.{sum_by}
use Rattle.std.proofs.lemmas.Bool.{cases_lt}
use Rattle.std.proofs.Math.Nat.{add-mul, mul-add, mul-le-mul, mul-le-mul_right, div-le_of_le-mul, div-eq_of_lt, mul_assoc}
use Rattle.std.proofs.lemmas.List.Sums.{sum_by-cons, sum_by-le-sum_by}
use Rattle.hdr_compare.specs.Effective.{effective_of, square}
use Rattle.hdr_compare.specs.Tiers.{student_of}
use Rattle.hdr_compare.specs.declared.tiers.Tier.{Tier}
use Rattle.hdr_compare.specs.declared.batch.Batch.{Batch}

-- no more samples are counted than there are
pub counted_within : (batches : List Batch) → sum_by (λ b. b.count) batches ≤ sum_by (λ b. b.size) batches
counted_within batches = sum_by-le-sum_by (λ b. b.count) (λ b. b.size) batches (λ b. b.within)

-- the count of a batch is at most as far from its part of all counts as there are samples
pub distance_within : (size count own part : ℕ) → count ≤ size → own ≤ size → part ≤ own → 16 * ((part * size - own * count) + (own * count - part * size)) / size ≤ 16 * size
distance_within size count own part few inside within =
    let one : part * size ≤ size * size = mul-le-mul_right size (omega (arith, within, inside)) in
    let other : own * count ≤ size * size = mul-le-mul inside few in
    let off : 16 * ((part * size - own * count) + (own * count - part * size)) ≤ size * (16 * size) = omega (arith, one, other) in
    div-le_of_le-mul size off

-- the number that is expected of independent samples fits
pub expected_fits : (count rest len : ℕ) → count < 2 ^ 40 → rest < 2 ^ 40 → len ≤ 2 ^ 20 → 256000 * count * rest * len < 2 ^ 128
expected_fits count rest len small left few =
    let one : 256000 * count ≤ 256000 * 2 ^ 40 = omega (arith, small) in
    let within : rest ≤ 2 ^ 40 = omega (arith, left) in
    let two : 256000 * count * rest ≤ 256000 * 2 ^ 40 * 2 ^ 40 = mul-le-mul one within in
    let three : 256000 * count * rest * len ≤ 256000 * 2 ^ 40 * 2 ^ 40 * 2 ^ 20 = mul-le-mul two few in
    omega (arith, three)

square_of_sum : (a b c : ℕ) → c ≤ square b → square a + c ≤ square (a + b)
square_of_sum a b c within = omega (arith, within, mul-add (a + b) a b, add-mul a b a, add-mul a b b)

-- the squares of sizes add up to at most the square of their sum
pub squares_within : (batches : List Batch) → sum_by (λ b. square b.size) batches ≤ square (sum_by (λ b. b.size) batches)
squares_within [] = omega arith
squares_within (b ∷ batches) =
    let others : sum_by (λ b. square b.size) batches ≤ square (sum_by (λ b. b.size) batches) = squares_within batches in
    let squares : sum_by (λ b. square b.size) (b ∷ batches) ≡ square b.size + sum_by (λ b. square b.size) batches = sum_by-cons (λ b. square b.size) b batches in
    let sizes : sum_by (λ b. b.size) (b ∷ batches) ≡ b.size + sum_by (λ b. b.size) batches = sum_by-cons (λ b. b.size) b batches in
    rw (squares, sizes) (square_of_sum b.size (sum_by (λ b. b.size) batches) (sum_by (λ b. square b.size) batches) others)

square_at_least : (a : ℕ) → a ≤ square a
square_at_least a =
    elim (cases_lt 0 a) [
      | inl some ↦ (
          let one : 1 ≤ a = omega (arith, some) in
          let more : 1 * a ≤ a * a = mul-le-mul_right a one in
          omega (arith, more))
      | inr none ↦ omega (arith, none)
    ]

-- sizes are at most their squares
pub sizes_within : (batches : List Batch) → sum_by (λ b. b.size) batches ≤ sum_by (λ b. square b.size) batches
sizes_within batches = sum_by-le-sum_by (λ b. b.size) (λ b. square b.size) batches (λ b. square_at_least b.size)

quotient_of_same : (number a b factor : ℕ) → a ≡ b → number / (a * factor) ≡ number / (b * factor)
quotient_of_same number a b factor same = search (rules, same)

-- a spread past 128 bits leaves less than one sample
pub saturated_quotient : (number spread factor : ℕ) → number < 2 ^ 128 → 2 ≤ factor → number / (min spread (2 ^ 128 - 1) * factor) ≡ number / (spread * factor)
saturated_quotient number spread factor fits more =
    elim (cases_lt spread (2 ^ 128)) [
      | inl within ↦ quotient_of_same number (min spread (2 ^ 128 - 1)) spread factor (omega (arith, within))
      | inr past ↦
          let great : 2 ^ 128 * 2 ≤ spread * factor = mul-le-mul past more in
          let capped : 2 ^ 128 - 1 ≤ min spread (2 ^ 128 - 1) = omega (arith, past) in
          let least : (2 ^ 128 - 1) * 2 ≤ min spread (2 ^ 128 - 1) * factor = mul-le-mul capped more in
          let one : number / (min spread (2 ^ 128 - 1) * factor) ≡ 0 = div-eq_of_lt (omega (arith, fits, least)) in
          let other : number / (spread * factor) ≡ 0 = div-eq_of_lt (omega (arith, fits, great)) in
          search (rules, one, other)
    ]

-- the samples count as many as are computed of a spread that is saturated
pub effective_is : (tier : Tier) (n c s k : ℕ) → 0 < student_of tier k → n < 2 ^ 40 → k ≤ 2 ^ 20 → 4 ≤ k → 0 < c → c < n → 0 < s
    → min n (max 1 (256000 * c * (n - c) * (k - 1) / (min s (2 ^ 128 - 1) * (k * student_of tier k)))) ≡ effective_of tier n c s k
effective_is tier n c s k positive few batches four some below spread =
    let number : 256000 * c * (n - c) * (k - 1) < 2 ^ 128 = expected_fits c (n - c) (k - 1) (omega (arith, few, below)) (omega (arith, few)) (omega (arith, batches)) in
    let factor : 2 ≤ k * student_of tier k = omega (arith, mul-le-mul four positive) in
    search (rules, saturated_quotient (256000 * c * (n - c) * (k - 1)) s (k * student_of tier k) number factor, mul_assoc s k (student_of tier k))
