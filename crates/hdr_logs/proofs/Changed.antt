-- A list in which one element after the other is changed.
use Rattle.std.proofs.Common.{◌≡◌, ℕ, zero, suc, ◌+◌, ◌<◌, ◌-◌, ◌^◌, ◌≤◌, min, Bool, true, false, List, [], ◌∷◌, ◌++◌, length, take, take_all, get_or, set, sym, subst, ◌∙◌, arith, inl, inr}
use Rattle.std.specs.List.{AllZip, count_by}
use Rattle.std.proofs.lemmas.List.Sums.{count_by-le-length, count_by_more_yes, count_by_more_no}
use Rattle.std.proofs.lemmas.List.{length-take, take-append-le, get_or-set_same, get_or-set_other, get_or_default}
use Rattle.std.proofs.lemmas.Bool.{cases_lt}

-- the first i elements are changed, and the others are not
pub record Changed {X : Type 0} (R : X → X → Type 0) (old now : List X) (i : ℕ) : Type 0 where
  pub done : (k : ℕ) (d : X) → k < i → R (get_or old k d) (get_or now k d)
  pub rest : (k : ℕ) (d : X) → i ≤ k → get_or now k d ≡ get_or old k d

-- one more is changed
pub changed-step : {X : Type 0} (R : X → X → Type 0) (old now : List X) (i : ℕ) (item new : X) → i < length now → Changed R old now i → R (get_or now i item) new → Changed R old (set now i new) (i + 1)
changed-step R old now i item new inside before one = record {
  done = λ k d below. elim (cases_lt k i) [
    | inl lt ↦ subst (R (get_or old k d)) (sym (get_or-set_other now i k new d (omega arith))) (before.done k d lt)
    | inr ge ↦ (
        let at : k ≡ i = omega arith in
        let here : R (get_or old i d) (get_or (set now i new) i d) = subst (R (get_or old i d)) (sym (get_or-set_same now i new d inside)) (subst (λ x. R x new) (get_or_default now i item d inside ∙ before.rest i d (omega arith)) one) in
        subst (λ n. R (get_or old n d) (get_or (set now i new) n d)) (sym at) here)
  ];
  rest = λ k d above. get_or-set_other now i k new d (omega arith) ∙ before.rest k d (omega arith);
}

-- all are changed
pub changed-all : {X : Type 0} (R : X → X → Type 0) (old now : List X) (i : ℕ) → length now ≡ length old → length old ≤ i → Changed R old now i → AllZip R old now
changed-all R [] [] i many all c = tt
changed-all R [] (y ∷ now) i many all c = absurd (omega arith)
changed-all R (x ∷ old) [] i many all c = absurd (omega arith)
changed-all R (x ∷ old) (y ∷ now) zero many all c = absurd (omega arith)
changed-all R (x ∷ old) (y ∷ now) (suc i) many all c = (c.done 0 x (omega arith), changed-all R old now i (omega arith) (omega arith) (record { done = λ k d h. c.done (suc k) d (omega arith); rest = λ k d h. c.rest (suc k) d (omega arith) }))

-- what a changed slice leaves in its vector
pub refilled : {X : Type 0} (n : ℕ) (new rest : List X) → length new ≡ n → take n (new ++ rest) ≡ new
refilled n new rest many = take-append-le n new rest (omega arith) ∙ take_all n new (omega arith)

-- how many elements pass a test, after one more
pub counted-more : {X : Type 0} (test : X → Bool) (xs : List X) (i : ℕ) (d : X) (count one sum : ℕ) (has : Bool) (byte : Bool → ℕ) → i < length xs → count ≡ count_by test (take i xs) → has ≡ test (get_or xs i d)
    → one ≡ byte has → byte true ≡ 1 → byte false ≡ 0 → sum ≡ min (count + one) (2 ^ 64 - 1) → i < 2 ^ 64 - 1 → sum ≡ count_by test (take (i + 1) xs)
counted-more test xs i d count one sum true byte inside before is value at_true at_false all few =
    omega (arith, before, value, at_true, all, few, count_by-le-length test (take i xs), length-take i xs, count_by_more_yes test xs i d inside (sym is))
counted-more test xs i d count one sum false byte inside before is value at_true at_false all few =
    omega (arith, before, value, at_false, all, few, count_by-le-length test (take i xs), length-take i xs, count_by_more_no test xs i d inside (sym is))
