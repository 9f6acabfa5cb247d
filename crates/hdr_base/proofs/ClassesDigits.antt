-- The exponent that keeps the digits.
use Rattle.std.proofs.Common.{true, ◌≡◌, ℕ, ◌+◌, ◌-◌, ◌*◌, ◌^◌, ◌<◌, ◌≤◌, ap, ◌∙◌, arith, inl, inr, leb}
use Rattle.std.proofs.lemmas.Bool.Decides.{nat_tests}
use Rattle.std.proofs.lemmas.Bool.{cases_lt}
use Rattle.std.proofs.lemmas.Nat.{pow-add, mul-le}
use Rattle.std.proofs.Math.Nat.{one-le-pow}
use Rattle.hdr_base.specs.Classes.{IsLeast, IsFiner, digits_of, resolution_of, unit_of}
use Rattle.hdr_base.proofs.ClassesLeast.{least_from-passes, least_from-le}
use Rattle.hdr_base.proofs.ClassesLaws.{below_own_power}

-- twice the power of ten is at most the power of two of the digits
pub digits-enough : (s : ℕ) → 2 * 10 ^ s ≤ 2 ^ digits_of s
unfolding digits_of
digits-enough s =
    let n = 2 * 10 ^ s in
    let test = λ (m : ℕ). leb n (2 ^ m) in
    let at_n : test n ≡ true = (let h : n ≤ 2 ^ n = omega (arith, below_own_power n) in grind (arith, nat_tests)) in
    let passes : test (digits_of s) ≡ true = least_from-passes test n 0 n (omega arith) (omega arith) at_n in
    grind (arith, nat_tests)

pub digits-pos : (s : ℕ) → 0 < digits_of s
digits-pos s =
    elim (cases_lt 0 (digits_of s)) [
      | inl lt ↦ lt
      | inr le ↦ (
          let e : digits_of s ≡ 0 = omega arith in
          let one : 2 ^ digits_of s ≡ 1 = ap (λ (k : ℕ). 2 ^ k) e in
          absurd (omega (arith, digits-enough s, ten_pos s))
          )
    ]
  where
    ten_pos : (s : ℕ) → 0 < 10 ^ s
    ten_pos s = one-le-pow s 10 (omega arith)

-- more significant digits take no fewer binary digits
pub digits-mono : (a b : ℕ) → a ≤ b → digits_of a ≤ digits_of b
unfolding digits_of
digits-mono a b le =
    let n = 2 * 10 ^ a in
    let test = λ (m : ℕ). leb n (2 ^ m) in
    let split : 10 ^ b ≡ 10 ^ (b - a) * 10 ^ a = (let e : b ≡ (b - a) + a = omega arith in ap (λ (x : ℕ). 10 ^ x) e ∙ pow-add 10 (b - a) a) in
    let pos : 1 ≤ 10 ^ (b - a) = one-le-pow (b - a) 10 (omega arith) in
    let row : 1 * 10 ^ a ≤ 10 ^ (b - a) * 10 ^ a = mul-le 1 (10 ^ a) (10 ^ (b - a)) (10 ^ a) pos (omega arith) in
    let enough : n ≤ 2 ^ digits_of b = omega (arith, digits-enough b) in
    let passes : test (digits_of b) ≡ true = grind (arith, nat_tests) in
    least_from-le test n 0 (digits_of b) (omega arith) passes

pub finer-by : (low a other b : ℕ) → unit_of low ≤ unit_of other → b ≤ a → IsFiner (resolution_of low a) (resolution_of other b)
unfolding resolution_of
finer-by low a other b unit digits = record { unit = unit; digits = digits-mono b a digits }

leb-from : (a b : ℕ) → a ≤ b → leb a b ≡ true
leb-from a b h = grind (arith, nat_tests)

pub digits-IsLeast : (s : ℕ) → IsLeast (λ m. 2 * 10 ^ s ≤ 2 ^ m) (digits_of s)
unfolding digits_of
digits-IsLeast s = record {
  holds = digits-enough s;
  least = λ j h. least_from-le (λ m. leb (2 * 10 ^ s) (2 ^ m)) (2 * 10 ^ s) 0 j (omega arith) (leb-from (2 * 10 ^ s) (2 ^ j) h);
}

pub digits-pos-of : (low s : ℕ) → 0 < (resolution_of low s).digits
unfolding resolution_of
digits-pos-of low s = digits-pos s
