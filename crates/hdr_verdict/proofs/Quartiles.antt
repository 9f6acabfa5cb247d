-- The value of a rank in an ascending list.
use Rattle.std.proofs.Common.{◌≡◌, ℕ, zero, suc, ◌*◌, ◌/◌, ◌<◌, ◌≤◌, Bool, false, leb, ltb, cond, List, [], ◌∷◌, length, get_or, count_by, refl, sym, subst, ◌∙◌, arith, inl, inr, add-one, is_lt, nat_cmp}
use Rattle.std.specs.List.{All}
use Rattle.std.specs.List.Sorted.{IsPermutation, IsSorted}
use Rattle.std.proofs.lemmas.Bool.Decides.{nat_tests}
use Rattle.std.proofs.lemmas.Bool.{cases_lt}
use Rattle.std.proofs.lemmas.List.Sums.{sum_by-le-sum_by}
use Rattle.std.proofs.lemmas.List.Sorted.{sum_by-IsPermutation}
use Rattle.hdr_model.specs.Quantiles.{sorted}
use Rattle.hdr_model.proofs.QuantilesOrder.{Ascends, sorted-count, sorted-Ascends, sorted-length, at-or-below, below}
use Rattle.hdr_verdict.specs.Groups.{ninth_decile}
use Rattle.hdr_verdict.specs.Usual.{lower_quartile}

-- no number is less than the one before it
abbrev pub Rising : List ℕ → Type 0
Rising xs = (k : ℕ) → suc k < length xs → get_or xs k 0 ≤ get_or xs (suc k) 0

rising-tail : (x : ℕ) (xs : List ℕ) → Rising (x ∷ xs) → Rising xs
rising-tail x xs up = λ k inside. up (suc k) (omega arith)

at-most : (x y : ℕ) (ys : List ℕ) → x ≤ y → All (λ z. y ≤ z) ys → All (λ z. x ≤ z) (y ∷ ys)
at-most x y ys first rest = λ k. elim k as (λ k. (d : ℕ) → k < length (y ∷ ys) → x ≤ get_or (y ∷ ys) k d) [
  | zero ↦ λ d inside. first
  | suc k ↦ λ d inside. (let one : y ≤ get_or ys k d = rest k d (omega arith) in omega arith)
]

rising-all : (x : ℕ) (xs : List ℕ) → Rising (x ∷ xs) → All (λ y. x ≤ y) xs
rising-all x [] up = λ k d inside. absurd (omega arith)
rising-all x (y ∷ ys) up =
    let first : x ≤ y = up 0 (omega arith) in
    let rest = rising-all y ys (rising-tail x (y ∷ ys) up) in
    λ k d inside. at-most x y ys first rest k d inside

rising-ascends : (xs : List ℕ) → Rising xs → Ascends xs
rising-ascends [] up = tt
rising-ascends (x ∷ xs) up = (rising-all x xs up, rising-ascends xs (rising-tail x xs up))

one-less : (v w x : ℕ) → v < w → cond (leb x v) 1 0 ≤ cond (ltb x w) 1 0
one-less v w x lt = grind (arith, nat_tests)

count-less : (v w : ℕ) (xs : List ℕ) → v < w → count_by (λ x. leb x v) xs ≤ count_by (λ x. ltb x w) xs
count-less v w xs lt = sum_by-le-sum_by (λ x. cond (leb x v) 1 0) (λ x. cond (ltb x w) 1 0) xs (λ x. one-less v w x lt)

le-of : (a b : ℕ) → is_lt (nat_cmp b a) ≡ false → a ≤ b
le-of a b is = grind (arith, nat_tests)

pub rising-of : (xs : List ℕ) → IsSorted nat_cmp xs → Rising xs
rising-of xs sorted = λ k inside. le-of (get_or xs k 0) (get_or xs (suc k) 0) (subst (λ n. is_lt (nat_cmp (get_or xs n 0) (get_or xs k 0)) ≡ false) (add-one k) (sorted k 0 (omega arith) (omega arith)))

-- two ascending lists with the same counts are the same at each index
same-at : (xs ys : List ℕ) (k : ℕ) → Ascends xs → Ascends ys → ((p : ℕ → Bool) → count_by p xs ≡ count_by p ys) → k < length xs → k < length ys → get_or xs k 0 ≤ get_or ys k 0
same-at xs ys k up-x up-y same in-x in-y = elim (cases_lt (get_or ys k 0) (get_or xs k 0)) [
  | inl lt ↦ absurd (
      let v = get_or ys k 0 in
      let w = get_or xs k 0 in
      omega (arith, at-or-below ys k up-y in-y, below xs k up-x in-x, count-less v w xs lt, same (λ x. leb x v)))
  | inr ge ↦ ge
]

-- the number of an index in ascending order
pub value-at : (xs ys : List ℕ) (k : ℕ) → IsPermutation xs ys → Rising ys → length ys ≡ length xs → k < length xs → get_or ys k 0 ≡ get_or (sorted xs) k 0
value-at xs ys k moved up many inside =
    let s = sorted xs in
    let a = rising-ascends ys up in
    let b = sorted-Ascends xs in
    let counts : (p : ℕ → Bool) → count_by p ys ≡ count_by p s = λ p. sum_by-IsPermutation (λ x. cond (p x) 1 0) xs ys moved ∙ sym (sorted-count p xs) in
    let in-y : k < length ys = omega arith in
    let in-s : k < length s = omega (arith, sorted-length xs) in
    let le = same-at ys s k a b counts in-y in-s in
    let ge = same-at s ys k b a (λ p. sym (counts p)) in-s in-y in
    omega (arith, le, ge)

pub quartile-at : (xs ys : List ℕ) → IsPermutation xs ys → Rising ys → length ys ≡ length xs → get_or ys (length xs / 4) 0 ≡ lower_quartile xs
unfolding lower_quartile
quartile-at [] [] moved up many = refl
quartile-at [] (y ∷ ys) moved up many = absurd (omega arith)
quartile-at (x ∷ xs) ys moved up many = value-at (x ∷ xs) ys (length (x ∷ xs) / 4) moved up many (omega arith)

pub decile-at : (other : ℕ) (xs ys : List ℕ) → IsPermutation xs ys → Rising ys → length ys ≡ length xs → length xs * 9 / 10 < length xs → get_or ys (length xs * 9 / 10) 0 ≡ ninth_decile other xs
decile-at other [] ys moved up many inside = absurd (omega arith)
decile-at other (x ∷ xs) ys moved up many inside = value-at (x ∷ xs) ys (length (x ∷ xs) * 9 / 10) moved up many inside

pub decile-none : (other : ℕ) (xs : List ℕ) → length xs ≤ length xs * 9 / 10 → other ≡ ninth_decile other xs
decile-none other [] none = refl
decile-none other (x ∷ xs) none = absurd (omega arith)
