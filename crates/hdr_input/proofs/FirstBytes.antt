-- What comes before the first byte that passes a test, and what follows it.
use Rattle.std.proofs.Common.{◌≡◌, ℕ, ◌+◌, ◌-◌, ◌<◌, ◌≤◌, Bool, true, false, cond, not, ◌||◌, suc, nat_lt, List, [], ◌∷◌, ◌++◌, length, take, drop, Option, Some, None, refl, sym, ap, ◌∙◌, arith, inl, inr, length-drop}
use Rattle.std.specs.Prelude.{position, if◌then◌else◌}
use Rattle.std.specs.List.{position_or_len, before_first, after_first, list_any}
use Rattle.std.proofs.lemmas.List.{take_all, drop_all}
use Rattle.std.proofs.lemmas.Bool.{cases_lt}
use Rattle.std.proofs.lemmas.Bool.Decides.{nat_tests}

-- the position of a byte that is there
pub first_some : (p : ℕ → Bool) (text : List ℕ) (at : ℕ) → Some at ≡ position p text → (at ≡ position_or_len p text) × (at < length text)
first_some p text at e = elim (cases_lt (position_or_len p text) (length text)) [
  | inl lt ↦ grind (arith, nat_tests)
  | inr ge ↦ grind (arith, nat_tests)
]

pub first_none : (p : ℕ → Bool) (text : List ℕ) → None ≡ position p text → length text ≤ position_or_len p text
first_none p text e = elim (cases_lt (position_or_len p text) (length text)) [
  | inl lt ↦ grind (arith, nat_tests)
  | inr ge ↦ ge
]

pub before_some : (p : ℕ → Bool) (text : List ℕ) (at : ℕ) → Some at ≡ position p text → take at text ≡ before_first p text
before_some p text at e = ap (λ n. take n text) ((first_some p text at e).0)

pub after_some : (p : ℕ → Bool) (text : List ℕ) (at : ℕ) → Some at ≡ position p text → take (length text - (at + 1)) (drop (at + 1) text) ≡ after_first p text
after_some p text at e =
    take_all (length text - (at + 1)) (drop (at + 1) text) (omega (arith, length-drop (at + 1) text))
    ∙ ap (λ n. drop (n + 1) text) ((first_some p text at e).0)

pub before_none : (p : ℕ → Bool) (text : List ℕ) → None ≡ position p text → text ≡ before_first p text
before_none p text e = sym (take_all (position_or_len p text) text (first_none p text e))

pub after_none : (p : ℕ → Bool) (text : List ℕ) → None ≡ position p text → take (length text - length text) (drop (length text) text) ≡ after_first p text
after_none p text e =
    let past : length text ≤ position_or_len p text + 1 = omega (arith, first_none p text e) in
    take_all (length text - length text) (drop (length text) text) (omega (arith, length-drop (length text) text))
    ∙ drop_all (length text) text (omega arith) ∙ sym (drop_all (position_or_len p text + 1) text past)

-- whether a byte passes a test is whether it has a position
any_is : (p : ℕ → Bool) (text : List ℕ) → list_any p text ≡ nat_lt (position_or_len p text) (length text)
any_is p [] = refl
any_is p (x ∷ text) = one (p x) (position_or_len p text) (length text) (list_any p text) (any_is p text)
  where
    one : (b : Bool) (k n : ℕ) (more : Bool) → more ≡ nat_lt k n → (b || more) ≡ nat_lt (cond (not b) (1 + k) 0) (suc n)
    one true k n more h = grind (arith, nat_tests)
    one false k n more h = grind (arith, nat_tests)

any_some : (p : ℕ → Bool) (text : List ℕ) (at : ℕ) → Some at ≡ position p text → list_any p text ≡ true
any_some p text at e = let first = first_some p text at e in
    let lt : position_or_len p text < length text = omega (arith, first.0, first.1) in
    any_is p text ∙ (let t : nat_lt (position_or_len p text) (length text) ≡ true = grind (arith, nat_tests) in t)

any_none : (p : ℕ → Bool) (text : List ℕ) → None ≡ position p text → list_any p text ≡ false
any_none p text e =
    let ge : length text ≤ position_or_len p text = first_none p text e in
    any_is p text ∙ (let t : nat_lt (position_or_len p text) (length text) ≡ false = grind (arith, nat_tests) in t)

-- what follows the first byte that passes a test, if there is one
pub rest_some : (p : ℕ → Bool) (text : List ℕ) (at : ℕ) → Some at ≡ position p text
    → Some (take (length text - (at + 1)) (drop (at + 1) text)) ≡ (if list_any p text then Some (after_first p text) else None)
rest_some p text at e = rw (any_some p text at e) (ap Some (after_some p text at e))

pub rest_none : (p : ℕ → Bool) (text : List ℕ) → None ≡ position p text → None ≡ (if list_any p text then Some (after_first p text) else None)
rest_none p text e = rw (any_none p text e) refl
