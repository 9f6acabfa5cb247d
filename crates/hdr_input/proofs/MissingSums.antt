-- Sums of missing samples.
use Rattle.std.proofs.Common.{◌≡◌, ℕ, zero, suc, ◌+◌, ◌-◌, ◌*◌, ◌/◌, ◌%◌, ap, arith, inl, inr}
use Rattle.std.proofs.lemmas.Bool.{cases_lt}
use Rattle.std.proofs.lemmas.Nat.{div-add-mod'}
use Rattle.std.proofs.lemmas.List.Sums.{sum_by-cons, sum-map}
use Rattle.std.specs.List.{range_with_len, sum, sum_by}
use Rattle.hdr_model.specs.Correction.{missing}

-- twice the sum of n values, the last of which is i + r and each i above the next
twice_sum : (v i a n r : ℕ) → v ≡ (a + n) * i + r → 2 * sum_by (λ j. v - j * i) (range_with_len a n) ≡ 2 * n * r + n * i * (n + 1)
twice_sum v i a zero r e = omega arith
twice_sum v i a (suc n) r e =
    let later : v ≡ (a + 1 + n) * i + r = omega (arith, e) in
    let rest = twice_sum v i (a + 1) n r later in
    let first : v - a * i ≡ (n + 1) * i + r = omega (arith, e) in
    let parts = sum_by-cons (λ j. v - j * i) a (range_with_len (a + 1) n) in
    omega (arith, rest, first, parts)

-- the sum of the missing samples before a value, as many as n
pub sum_missing : (v i n : ℕ) → n ≡ v / i - 1 → n * (v % i) + n * i * (n + 1) / 2 ≡ sum (missing v i)
unfolding missing
sum_missing v i n is =
    let whole = sum-map (λ j. v - j * i) (range_with_len 1 (v / i - 1)) in
    elim (cases_lt 0 (v / i)) [
      | inl some ↦ (
          let parts = div-add-mod' v i in
          let size : v / i ≡ 1 + (v / i - 1) = omega (arith, some) in
          let all : v ≡ (1 + (v / i - 1)) * i + v % i = omega (arith, parts, ap (λ q. q * i) size) in
          let twice = twice_sum v i 1 (v / i - 1) (v % i) all in
          rw is (omega (arith, twice, whole))
          )
      | inr none ↦ (
          let no : v / i - 1 ≡ 0 = omega (arith, none) in
          rw is (rw no (omega arith))
          )
    ]
