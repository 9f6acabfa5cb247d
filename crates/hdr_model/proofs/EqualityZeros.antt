-- Lists of numbers that are one but for zeros at their ends.
use Rattle.std.proofs.Common.{◌≡◌, ◌≢◌, ℕ, zero, suc, ◌<◌, Bool, true, false, eqb, max, List, [], ◌∷◌, length, get_or, refl, sym, ap, ◌∙◌, arith, inl, inr}
use Rattle.std.proofs.lemmas.Bool.{cases_lt}
use Rattle.std.proofs.lemmas.List.{get_or_past}
use lib.Pointwise.{pointwise, bytes_decides}
use Rattle.hdr_model.specs.Equality.{put_first, without_end_zeros, same_numbers}

put-at : (x : ℕ) (xs : List ℕ) (k : ℕ) → get_or (put_first x xs) k 0 ≡ get_or (x ∷ xs) k 0
put-at zero [] zero = refl
put-at zero [] (suc k) = refl
put-at (suc n) [] k = refl
put-at zero (y ∷ ys) k = refl
put-at (suc n) (y ∷ ys) k = refl

pub trimmed-at : (xs : List ℕ) (k : ℕ) → get_or (without_end_zeros xs) k 0 ≡ get_or xs k 0
trimmed-at [] k = refl
trimmed-at (x ∷ xs) zero = put-at x (without_end_zeros xs) zero
trimmed-at (x ∷ xs) (suc k) = put-at x (without_end_zeros xs) (suc k) ∙ trimmed-at xs k

trimmed-zeros : (ys : List ℕ) → ((k : ℕ) → 0 ≡ get_or ys k 0) → [] ≡ without_end_zeros ys
trimmed-zeros [] h = refl
trimmed-zeros (y ∷ ys) h =
    (let e : put_first zero [] ≡ put_first y (without_end_zeros ys) = rw (← h zero, ← trimmed-zeros ys (λ k. h (suc k))) refl in e)

pub trimmed-same : (xs ys : List ℕ) → ((k : ℕ) → get_or xs k 0 ≡ get_or ys k 0) → without_end_zeros xs ≡ without_end_zeros ys
trimmed-same [] ys h = trimmed-zeros ys h
trimmed-same (x ∷ xs) [] h = sym (trimmed-zeros (x ∷ xs) (λ k. sym (h k)))
trimmed-same (x ∷ xs) (y ∷ ys) h =
    ap (λ n. put_first n (without_end_zeros xs)) (h zero) ∙ ap (put_first y) (trimmed-same xs ys (λ k. h (suc k)))

pub numbers-same : (xs ys : List ℕ) (n : ℕ) → n ≡ max (length xs) (length ys) → ((k : ℕ) → k < n → get_or xs k 0 ≡ get_or ys k 0) → true ≡ same_numbers xs ys
numbers-same xs ys n e h =
    sym ((bytes_decides (without_end_zeros xs) (without_end_zeros ys)).1 (trimmed-same xs ys (λ k. elim (cases_lt k n) [
      | inl lt ↦ h k lt
      | inr ge ↦ get_or_past xs k 0 (omega arith) ∙ sym (get_or_past ys k 0 (omega arith))
    ])))

pub numbers-other : (xs ys : List ℕ) (k : ℕ) → get_or xs k 0 ≢ get_or ys k 0 → false ≡ same_numbers xs ys
numbers-other xs ys k h =
    let step : (b : Bool) → pointwise eqb (without_end_zeros xs) (without_end_zeros ys) ≡ b → false ≡ b =
    λ b. elim b as (λ b. pointwise eqb (without_end_zeros xs) (without_end_zeros ys) ≡ b → false ≡ b) [
      | true ↦ λ e. absurd (h (sym (trimmed-at xs k) ∙ ap (λ zs. get_or zs k 0) ((bytes_decides (without_end_zeros xs) (without_end_zeros ys)).0 e) ∙ trimmed-at ys k))
      | false ↦ λ e. refl
    ] in
    step (pointwise eqb (without_end_zeros xs) (without_end_zeros ys)) refl
