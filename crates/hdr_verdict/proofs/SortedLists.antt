-- Sorted numbers: what a sort leaves is `sorted`.
use Rattle.std.proofs.Common.{◌≡◌, ℕ, suc, ◌≤◌, ◌<◌, Bool, true, false, cond, leb, ltb, List, [], ◌∷◌, length, get_or, count_by, arith, refl, sym, ◌∙◌, inl, inr}
use Rattle.std.specs.List.Sorted.{IsPermutation, IsNonDecreasingBy}
use Rattle.std.proofs.lemmas.Bool.{cases_lt, leb-true, lt-ltb}
use Rattle.std.proofs.lemmas.List.{get_or_past}
use Rattle.std.proofs.lemmas.List.Sums.{sum_by-le-sum_by}
use Rattle.std.proofs.lemmas.List.Sorted.{sum_by-IsPermutation, length_permutation}
use Rattle.hdr_model.specs.Quantiles.{sorted}
use Rattle.hdr_model.proofs.QuantilesOrder.{Ascends, sorted-count, sorted-Ascends, sorted-length, at-or-below, below}

ascends : (xs : List ℕ) → IsNonDecreasingBy (λ x. x) xs → Ascends xs
ascends [] h = tt
ascends (x ∷ xs) h = (λ k d l. h 0 (suc k) d (omega arith) (omega arith), ascends xs (λ i j d p q. h (suc i) (suc j) d (omega arith) (omega arith)))

-- at most as many pass a test that is stricter
fewer : (b c : Bool) → (b ≡ true → c ≡ true) → cond b 1 0 ≤ cond c 1 0
fewer true c h = let e = h refl in rw e (omega arith)
fewer false c h = omega arith

stricter : (x y : ℕ) (xs : List ℕ) → x < y → count_by (λ z. leb z x) xs ≤ count_by (λ z. ltb z y) xs
stricter x y xs h = sum_by-le-sum_by (λ z. cond (leb z x) 1 0) (λ z. cond (ltb z y) 1 0) xs (λ z. fewer (leb z x) (ltb z y) (λ e. let l = leb-true z x e in lt-ltb z y (omega arith)))

-- two ascending lists with the same numbers
never-below : (xs ys : List ℕ) (k : ℕ) → Ascends xs → Ascends ys → k < length xs → k < length ys → ((p : ℕ → Bool) → count_by p xs ≡ count_by p ys) → get_or ys k 0 ≤ get_or xs k 0
never-below xs ys k a b h l same = elim (cases_lt (get_or xs k 0) (get_or ys k 0)) [
  | inl low ↦
      (let x = get_or xs k 0 in
      let y = get_or ys k 0 in
      let many : k < count_by (λ z. leb z x) xs = at-or-below xs k a h in
      let few : count_by (λ z. ltb z y) ys ≤ k = below ys k b l in
      absurd (omega (arith, same (λ z. leb z x), stricter x y ys low)))
  | inr above ↦ above
]

sorted-at : (xs ys : List ℕ) (k : ℕ) → IsPermutation xs ys → IsNonDecreasingBy (λ x. x) ys → k < length ys → get_or ys k 0 ≡ get_or (sorted xs) k 0
sorted-at xs ys k moved up h =
    let counts : (p : ℕ → Bool) → count_by p ys ≡ count_by p (sorted xs) = λ p. sum_by-IsPermutation (λ x. cond (p x) 1 0) xs ys moved ∙ sym (sorted-count p xs) in
    let long = length_permutation xs ys moved in
    let within : k < length (sorted xs) = omega (arith, sorted-length xs) in
    let one = never-below ys (sorted xs) k (ascends ys up) (sorted-Ascends xs) h within counts in
    let two = never-below (sorted xs) ys k (sorted-Ascends xs) (ascends ys up) within h (λ p. sym (counts p)) in
    omega arith

-- each element of what a sort leaves
pub sorted-is : (xs ys : List ℕ) (k : ℕ) → IsPermutation xs ys → IsNonDecreasingBy (λ x. x) ys → get_or ys k 0 ≡ get_or (sorted xs) k 0
sorted-is xs ys k moved up = elim (cases_lt k (length ys)) [
  | inl within ↦ sorted-at xs ys k moved up within
  | inr past ↦ (let behind : length (sorted xs) ≤ k = omega (arith, sorted-length xs, length_permutation xs ys moved) in get_or_past ys k 0 past ∙ sym (get_or_past (sorted xs) k 0 behind))
]
