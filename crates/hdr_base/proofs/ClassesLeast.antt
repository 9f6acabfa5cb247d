-- A search from below finds the least number that passes.
use Rattle.std.proofs.Common.{◌≡◌, ◌≢◌, ℕ, zero, suc, ◌+◌, ◌≤◌, Bool, true, false, refl, sym, ap, ◌∙◌, arith}
use Rattle.hdr_base.specs.Classes.{least_from}

-- what a search returns passes, if some number that it reaches passes
pub least_from-passes : (p : ℕ → Bool) (n k j : ℕ) → k ≤ j → j ≤ k + n → p j ≡ true → p (least_from p k n) ≡ true
unfolding least_from
least_from-passes p zero k j a b e = let same : j ≡ k = omega arith in rw same at e
least_from-passes p (suc n) k j a b e =
    let step : (c : Bool) → p k ≡ c → p (elim c [ true ↦ k | false ↦ least_from p (suc k) n ]) ≡ true =
    λ c. elim c as (λ c. p k ≡ c → p (elim c [ true ↦ k | false ↦ least_from p (suc k) n ]) ≡ true) [
      | true ↦ λ h. h
      | false ↦ λ h.
          let other : k ≢ j = λ s. (let f : p j ≡ false = ap p (sym s) ∙ h in cc) in
          least_from-passes p n (suc k) j (omega arith) (omega arith) e
    ] in
    step (p k) refl

-- and it is at or below each number that passes
pub least_from-le : (p : ℕ → Bool) (n k j : ℕ) → k ≤ j → p j ≡ true → least_from p k n ≤ j
unfolding least_from
least_from-le p zero k j a e = a
least_from-le p (suc n) k j a e =
    let step : (c : Bool) → p k ≡ c → elim c [ true ↦ k | false ↦ least_from p (suc k) n ] ≤ j =
    λ c. elim c as (λ c. p k ≡ c → elim c [ true ↦ k | false ↦ least_from p (suc k) n ] ≤ j) [
      | true ↦ λ h. a
      | false ↦ λ h.
          let other : k ≢ j = λ s. (let f : p j ≡ false = ap p (sym s) ∙ h in cc) in
          least_from-le p n (suc k) j (omega arith) e
    ] in
    step (p k) refl
