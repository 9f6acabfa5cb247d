-- Fractions by their quotients and remainders.
use Rattle.std.proofs.Common.{◌≡◌, ℕ, suc, ◌+◌, ◌*◌, ◌/◌, ◌%◌, ◌<◌, ◌≤◌, sym, ap, ◌∙◌, arith, inl, inr}
use Rattle.std.proofs.Math.Nat.{div-add-mod, mul-le-mul_right}
use Rattle.std.proofs.Math.Nat.{mod-lt}
use Rattle.std.specs.Ordering.{nat_cmp, ordering_then}
use Rattle.std.specs.declared.cmp.Ordering.TheVariants.{Less, Equal, Greater}
use Rattle.std.proofs.lemmas.Bool.Decides.{nat_tests}
use Rattle.std.proofs.lemmas.Bool.{cases_lt}

module _ (a b c d : ℕ) (den : 0 < b) (scale : 0 < d) where
  -- a fraction of a smaller quotient is smaller
  pub below : a / b < c / d → a * d < c * b
  below lt =
      let q = a / b in
      let r = c / d in
      let one : b * q + a % b ≡ a = div-add-mod a b in
      let other : d * r + c % d ≡ c = div-add-mod c d in
      let small : a < b * (q + 1) = (let m : a % b < b = mod-lt a den in let e : b * (q + 1) ≡ b * q + b = grind arith in omega (arith, one, m, e)) in
      let less : suc a * d ≤ b * (q + 1) * d = mul-le-mul_right d small in
      let more : d * r ≤ c = omega (arith, other) in
      let up : d * r * b ≤ c * b = mul-le-mul_right b more in
      let quotients : (q + 1) * (b * d) ≤ r * (b * d) = mul-le-mul_right (b * d) (let e : q + 1 ≤ r = omega arith in e) in
      let e1 : b * (q + 1) * d ≡ (q + 1) * (b * d) = grind arith in
      let e2 : d * r * b ≡ r * (b * d) = grind arith in
      let e3 : suc a * d ≡ a * d + d = grind arith in
      omega (arith, less, up, quotients, e1, e2, e3, scale)

  -- fractions of one quotient differ by their remainders
  pub by-rests : a / b ≡ c / d → a * d + c % d * b ≡ c * b + a % b * d
  by-rests same =
      let q = a / b in
      let one : b * q + a % b ≡ a = div-add-mod a b in
      let other : d * q + c % d ≡ c = ap (λ n. d * n + c % d) same ∙ div-add-mod c d in
      let e1 : a * d ≡ b * q * d + a % b * d = ap (λ n. n * d) (sym one) ∙ (let e : (b * q + a % b) * d ≡ b * q * d + a % b * d = grind arith in e) in
      let e2 : c * b ≡ d * q * b + c % d * b = ap (λ n. n * b) (sym other) ∙ (let e : (d * q + c % d) * b ≡ d * q * b + c % d * b = grind arith in e) in
      let e3 : b * q * d ≡ d * q * b = grind arith in
      omega (arith, e1, e2, e3)

less : (a b : ℕ) → a < b → nat_cmp a b ≡ Less
less a b lt = grind (arith, nat_tests)

equal : (a b : ℕ) → a ≡ b → nat_cmp a b ≡ Equal
equal a b e = grind (arith, nat_tests)

greater : (a b : ℕ) → b < a → nat_cmp a b ≡ Greater
greater a b lt = grind (arith, nat_tests)

module _ (a b c d : ℕ) (den : 0 < b) (scale : 0 < d) where
  same-quotients : a / b ≡ c / d → nat_cmp (a % b * d) (c % d * b) ≡ nat_cmp (a * d) (c * b)
  same-quotients same =
      let differ = by-rests a b c d den scale same in
      elim (cases_lt (a % b * d) (c % d * b)) [
        | inl lt ↦ less (a % b * d) (c % d * b) lt ∙ sym (less (a * d) (c * b) (omega arith))
        | inr ge ↦ elim (cases_lt (c % d * b) (a % b * d)) [
          | inl gt ↦ greater (a % b * d) (c % d * b) gt ∙ sym (greater (a * d) (c * b) (omega arith))
          | inr le ↦ equal (a % b * d) (c % d * b) (omega arith) ∙ sym (equal (a * d) (c * b) (omega arith))
        ]
      ]

  -- fractions compare by their quotients, and then by their remainders
  pub compared : ordering_then (nat_cmp (a / b) (c / d)) (nat_cmp (a % b * d) (c % d * b)) ≡ nat_cmp (a * d) (c * b)
  compared =
      elim (cases_lt (a / b) (c / d)) [
        | inl lt ↦ ap (λ o. ordering_then o (nat_cmp (a % b * d) (c % d * b))) (less (a / b) (c / d) lt) ∙ sym (less (a * d) (c * b) (below a b c d den scale lt))
        | inr ge ↦ elim (cases_lt (c / d) (a / b)) [
          | inl gt ↦ ap (λ o. ordering_then o (nat_cmp (a % b * d) (c % d * b))) (greater (a / b) (c / d) gt) ∙ sym (greater (a * d) (c * b) (below c d a b scale den gt))
          | inr le ↦ ap (λ o. ordering_then o (nat_cmp (a % b * d) (c % d * b))) (equal (a / b) (c / d) (omega arith)) ∙ same-quotients (omega arith)
        ]
      ]
