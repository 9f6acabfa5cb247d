-- The digits of integers, and what surveys keep of numbers.
use Rattle.std.proofs.Common.{◌≡◌, ℕ, suc, ◌+◌, ◌-◌, ◌*◌, ◌/◌, ◌^◌, ◌<◌, ◌≤◌, ◌⊎◌, max, lit<, refl, sym, ap, ◌∙◌, arith, inl, inr, List, ◌∷◌}
use Rattle.std.proofs.Math.Nat.{pow-suc, pow-le-pow_right}
use Rattle.std.proofs.lemmas.Nat.{div-mul-add}
use Rattle.std.proofs.lemmas.Bool.{cases_lt}
use Rattle.hdr_input.specs.declared.number.Number.{Number}
use Rattle.hdr_input.specs.declared.survey.Survey.{Survey}
use Rattle.hdr_input.specs.Rounding.{HasDigits, HasSurveyed, most_decimals, greatest_whole, whole_of}
use Rattle.hdr_input.proofs.InUnits.{positive}

-- the digits of the greater of two integers
pub digits_of_max : (a b c d : ℕ) → HasDigits a c → HasDigits b d → HasDigits (max a b) (max c d)
digits_of_max a b c d (la, ga) (lb, gb) =
    let left : 10 ^ c ≤ 10 ^ max c d = pow-le-pow_right (lit< tt) (omega arith) in
    let right : 10 ^ d ≤ 10 ^ max c d = pow-le-pow_right (lit< tt) (omega arith) in (
      omega (arith, la, lb, left, right),
      λ some. elim (cases_lt c d) [
        | inl lt ↦ (let same : max c d - 1 ≡ d - 1 = omega (arith, lt) in
            let power : 10 ^ (max c d - 1) ≡ 10 ^ (d - 1) = ap (λ n. 10 ^ n) same in
            omega (arith, power, gb (omega (arith, lt))))
        | inr ge ↦ (let same : max c d - 1 ≡ c - 1 = omega (arith, ge) in
            let power : 10 ^ (max c d - 1) ≡ 10 ^ (c - 1) = ap (λ n. 10 ^ n) same in
            omega (arith, power, ga (omega (arith, ge, some))))
      ],
    )

-- an integer of some digits, and one between powers of ten
pub digits_between : (n k : ℕ) → 10 ^ k ≤ n → n < 10 * 10 ^ k → HasDigits n (k + 1)
digits_between n k low high =
    let next : 10 ^ (k + 1) ≡ 10 ^ k * 10 = ap (λ m. 10 ^ m) (let e : k + 1 ≡ suc k = omega arith in e) ∙ pow-suc 10 k in
    let before : 10 ^ (k + 1 - 1) ≡ 10 ^ k = ap (λ m. 10 ^ m) (let e : k + 1 - 1 ≡ k = omega arith in e) in
    (omega (arith, high, next), λ _. omega (arith, low, before))

-- an integer has one number of digits
pub same_digits : (n a b : ℕ) → HasDigits n a → HasDigits n b → a ≤ b
same_digits n a b (la, ga) (lb, gb) = elim (cases_lt b a) [
  | inl lt ↦ (let within : b ≤ a - 1 = omega (arith, lt) in
      let power : 10 ^ b ≤ 10 ^ (a - 1) = pow-le-pow_right (lit< tt) within in
      absurd (omega (arith, lb, power, ga (omega (arith, lt)))))
  | inr ge ↦ ge
]

-- there is a number of these decimals, with as many digits before its point
pub some_number : (decimals digits : ℕ) → (x : Number) × (x.decimals ≡ decimals) × HasDigits (whole_of x) digits
some_number decimals digits = elim (cases_lt 0 digits) [
  | inl some ↦ (
      let n : ℕ = 10 ^ (digits - 1) in
      let x : Number = record { digits = n * 10 ^ decimals; decimals = decimals } in
      let whole : whole_of x ≡ n = ap (λ m. m / 10 ^ decimals) (let e : n * 10 ^ decimals ≡ n * 10 ^ decimals + 0 = omega arith in e) ∙ div-mul-add n (10 ^ decimals) 0 (positive decimals) in
      let next : digits ≡ digits - 1 + 1 = omega (arith, some) in
      let below : 10 ^ (digits - 1) < 10 ^ digits = omega (arith, positive (digits - 1), ap (λ m. 10 ^ m) next ∙ ap (λ m. 10 ^ m) (let e : digits - 1 + 1 ≡ suc (digits - 1) = omega arith in e) ∙ pow-suc 10 (digits - 1)) in
      (x, refl, rw whole (below, λ _. omega arith)))
  | inr none ↦ (
      let x : Number = record { digits = 0; decimals = decimals } in
      let nothing : digits ≡ 0 = omega (arith, none) in
      let whole : whole_of x ≡ 0 = ap (λ m. m / 10 ^ decimals) (let e : 0 ≡ 0 * 10 ^ decimals + 0 = omega arith in e) ∙ div-mul-add 0 (10 ^ decimals) 0 (positive decimals) in
      (x, refl, rw (whole, nothing) (lit< tt, λ some. absurd (omega (arith, some)))))
]

-- a survey after one more number
pub surveyed : (old new : Survey) (x : Number) (before : List Number) → HasSurveyed old before → {d : ℕ} → new.decimals ≡ max old.decimals x.decimals → new.digits ≡ max old.digits d
    → HasDigits (whole_of x) d → HasSurveyed new (x ∷ before)
surveyed old new x before (most, has) {d} decimals digits whole =
    let all = digits_of_max (whole_of x) (greatest_whole before) d old.digits whole has in
    let same : max d old.digits ≡ new.digits = omega (arith, digits) in
    (omega (arith, decimals, most), rw same at all)
