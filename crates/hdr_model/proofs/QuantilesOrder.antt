-- Ascending lists, and the sample of a rank.
use Rattle.std.proofs.Common.{add-one, ◌≡◌, ℕ, zero, suc, ◌+◌, ◌<◌, ◌≤◌, Bool, true, false, cond, eqb, leb, ltb, List, [], ◌∷◌, length, get_or, take, sum, count_by, sum_by, refl, sym, ap, ◌∙◌, arith, inl, inr}
use Rattle.std.specs.List.{All}
use Rattle.std.proofs.lemmas.Bool.Decides.{nat_tests}
use Rattle.std.proofs.lemmas.Bool.{cases_lt}
use Rattle.std.proofs.lemmas.List.Sums.{sum_by-cons, sum_by_more, sum_by-le-sum_by}
use Rattle.std.proofs.lemmas.List.Elements.{All-cons, All-head, All-tail, All-weaker}
use Rattle.hdr_base.specs.Classes.{Resolution, bin_of}
use Rattle.hdr_base.proofs.ClassesLaws.{bin-mono}
use Rattle.hdr_model.specs.Plain.{Plain, resolution}
use Rattle.hdr_model.specs.Samples.{in_class, StandsFor}
use Rattle.hdr_model.specs.Quantiles.{put_in_order, sorted}

-- ---- sorted lists

abbrev pub Ascends : List ℕ → Type 0
Ascends [] = Unit {0}
Ascends (x ∷ xs) = All (λ y. x ≤ y) xs × Ascends xs

leb-from : (a b : ℕ) → leb a b ≡ true → a ≤ b
leb-from a b h = grind (arith, nat_tests)

leb-yes : (a b : ℕ) → a ≤ b → leb a b ≡ true
leb-yes a b h = grind (arith, nat_tests)

ltb-no : (a b : ℕ) → b ≤ a → ltb a b ≡ false
ltb-no a b h = grind (arith, nat_tests)

ltb-yes : (a b : ℕ) → a < b → ltb a b ≡ true
ltb-yes a b h = grind (arith, nat_tests)

ltb-from : (a b : ℕ) → ltb a b ≡ true → a < b
ltb-from a b h = grind (arith, nat_tests)

at_most_one : (b : Bool) → cond b 1 0 ≤ 1
at_most_one true = omega arith
at_most_one false = omega arith

later : (g : Resolution) (x y i : ℕ) → 0 < g.digits → i < bin_of g x → bin_of g y < i + 1 → ltb y x ≡ true
later g x y i m late t = elim (cases_lt y x) [
  | inl lt ↦ ltb-yes y x lt
  | inr ge ↦ absurd (omega (arith, bin-mono g x y m ge))
]

leb-not : (a b : ℕ) → leb a b ≡ false → b < a
leb-not a b h = grind (arith, nat_tests)

put-count : (p : ℕ → Bool) (x : ℕ) (ys : List ℕ) → count_by p (put_in_order x ys) ≡ cond (p x) 1 0 + count_by p ys
put-count p x [] = sum_by-cons (λ y. cond (p y) 1 0) x []
put-count p x (y ∷ ys) =
    let f : ℕ → ℕ = λ y. cond (p y) 1 0 in
    let step : (b : Bool) → sum_by f (cond b (x ∷ y ∷ ys) (y ∷ put_in_order x ys)) ≡ f x + sum_by f (y ∷ ys) =
    λ b. elim b as (λ b. sum_by f (cond b (x ∷ y ∷ ys) (y ∷ put_in_order x ys)) ≡ f x + sum_by f (y ∷ ys)) [
      | true ↦ sum_by-cons f x (y ∷ ys)
      | false ↦ omega (arith, sum_by-cons f y (put_in_order x ys), put-count p x ys, sum_by-cons f y ys)
    ] in
    step (leb x y)

put-All : (P : ℕ → Type 0) (x : ℕ) (ys : List ℕ) → P x → All P ys → All P (put_in_order x ys)
put-All P x [] h t = All-cons P x [] h t
put-All P x (y ∷ ys) h t =
    let step : (b : Bool) → All P (cond b (x ∷ y ∷ ys) (y ∷ put_in_order x ys)) =
    λ b. elim b as (λ b. All P (cond b (x ∷ y ∷ ys) (y ∷ put_in_order x ys))) [
      | true ↦ All-cons P x (y ∷ ys) h t
      | false ↦ All-cons P y (put_in_order x ys) (All-head P y ys t) (put-All P x ys h (All-tail P y ys t))
    ] in
    step (leb x y)

All-nil : (P : ℕ → Type 0) → All P []
All-nil P = λ k d h. absurd (omega arith)

put-Ascends : (x : ℕ) (ys : List ℕ) → Ascends ys → Ascends (put_in_order x ys)
put-Ascends x [] a = (All-nil (λ y. x ≤ y), tt)
put-Ascends x (y ∷ ys) a =
    let step : (b : Bool) → leb x y ≡ b → Ascends (cond b (x ∷ y ∷ ys) (y ∷ put_in_order x ys)) =
    λ b. elim b as (λ b. leb x y ≡ b → Ascends (cond b (x ∷ y ∷ ys) (y ∷ put_in_order x ys))) [
      | true ↦ λ e. (let le : x ≤ y = leb-from x y e in
          (All-cons (λ z. x ≤ z) y ys le (All-weaker (λ z. y ≤ z) (λ z. x ≤ z) (λ z h. omega arith) ys a.0), a))
      | false ↦ λ e. (let lt : y < x = leb-not x y e in
          (put-All (λ z. y ≤ z) x ys (omega arith) a.0, put-Ascends x ys a.1))
    ] in
    step (leb x y) refl

pub sorted-count : (p : ℕ → Bool) (xs : List ℕ) → count_by p (sorted xs) ≡ count_by p xs
sorted-count p [] = refl
sorted-count p (x ∷ xs) = put-count p x (sorted xs) ∙ ap (λ n. cond (p x) 1 0 + n) (sorted-count p xs) ∙ sym (sum_by-cons (λ y. cond (p y) 1 0) x xs)

pub sorted-Ascends : (xs : List ℕ) → Ascends (sorted xs)
sorted-Ascends [] = tt
sorted-Ascends (x ∷ xs) = put-Ascends x (sorted xs) (sorted-Ascends xs)

put-length : (x : ℕ) (ys : List ℕ) → length (put_in_order x ys) ≡ suc (length ys)
put-length x [] = refl
put-length x (y ∷ ys) =
    let step : (b : Bool) → length (cond b (x ∷ y ∷ ys) (y ∷ put_in_order x ys)) ≡ suc (suc (length ys)) =
    λ b. elim b as (λ b. length (cond b (x ∷ y ∷ ys) (y ∷ put_in_order x ys)) ≡ suc (suc (length ys))) [ true ↦ refl | false ↦ ap suc (put-length x ys) ] in
    step (leb x y)

pub sorted-length : (xs : List ℕ) → length (sorted xs) ≡ length xs
sorted-length [] = refl
sorted-length (x ∷ xs) = put-length x (sorted xs) ∙ ap suc (sorted-length xs)

-- ---- counts

count-imp : (p q : ℕ → Bool) (xs : List ℕ) → ((x : ℕ) → p x ≡ true → q x ≡ true) → count_by p xs ≤ count_by q xs
count-imp p q xs f =
    sum_by-le-sum_by (λ x. cond (p x) 1 0) (λ x. cond (q x) 1 0) xs (λ x.
    let step : (b c : Bool) → (b ≡ true → c ≡ true) → cond b 1 0 ≤ cond c 1 0 =
    λ b c. elim b as (λ b. (b ≡ true → c ≡ true) → cond b 1 0 ≤ cond c 1 0) [
      | true ↦ λ h. (let e : c ≡ true = h refl in rw e (omega arith))
      | false ↦ λ h. omega arith
    ] in
    step (p x) (q x) (f x))

-- more numbers of an ascending list are at or below one of them than come before it, and no more are below it
pub at-or-below : (xs : List ℕ) (k : ℕ) → Ascends xs → k < length xs → k < count_by (λ x. leb x (get_or xs k 0)) xs
at-or-below [] k a h = absurd (omega arith)
at-or-below (x ∷ xs) zero a h =
    let e : leb x x ≡ true = leb-yes x x (omega arith) in
    omega (arith, sum_by-cons (λ y. cond (leb y x) 1 0) x xs, ap {B = ℕ} (λ (b : Bool). cond b 1 0) e)
at-or-below (x ∷ xs) (suc k) a h =
    let s = get_or xs k 0 in
    let e : leb x s ≡ true = leb-yes x s (a.0 k 0 (omega arith)) in
    omega (arith, sum_by-cons (λ y. cond (leb y s) 1 0) x xs, ap {B = ℕ} (λ (b : Bool). cond b 1 0) e, at-or-below xs k a.1 (omega arith))

none-below : (x : ℕ) (xs : List ℕ) → All (λ y. x ≤ y) xs → count_by (λ y. ltb y x) xs ≡ 0
none-below x [] h = refl
none-below x (y ∷ ys) h =
    let e : ltb y x ≡ false = ltb-no y x (All-head (λ y. x ≤ y) y ys h) in
    omega (arith, sum_by-cons (λ y. cond (ltb y x) 1 0) y ys, ap {B = ℕ} (λ (b : Bool). cond b 1 0) e, none-below x ys (All-tail (λ y. x ≤ y) y ys h))

pub below : (xs : List ℕ) (k : ℕ) → Ascends xs → k < length xs → count_by (λ x. ltb x (get_or xs k 0)) xs ≤ k
below [] k a h = absurd (omega arith)
below (x ∷ xs) zero a h =
    let e : ltb x x ≡ false = ltb-no x x (omega arith) in
    omega (arith, sum_by-cons (λ y. cond (ltb y x) 1 0) x xs, ap {B = ℕ} (λ (b : Bool). cond b 1 0) e, none-below x xs a.0)
below (x ∷ xs) (suc k) a h =
    let s = get_or xs k 0 in
    omega (arith, sum_by-cons (λ y. cond (ltb y s) 1 0) x xs, at_most_one (ltb x s), below xs k a.1 (omega arith))

-- ---- the classes below one

-- how many samples lie in the first k classes
abbrev pub in_first : Resolution → ℕ → List ℕ → ℕ
in_first g k S = count_by (λ s. ltb (bin_of g s) k) S

pub in_first-none : (g : Resolution) (S : List ℕ) → in_first g 0 S ≡ 0
in_first-none g [] = refl
in_first-none g (s ∷ S) =
    let e : ltb (bin_of g s) 0 ≡ false = ltb-no (bin_of g s) 0 (omega arith) in
    omega (arith, sum_by-cons (λ s. cond (ltb (bin_of g s) 0) 1 0) s S, ap {B = ℕ} (λ (b : Bool). cond b 1 0) e, in_first-none g S)

one-more : (b k : ℕ) → cond (ltb b (k + 1)) 1 0 ≡ cond (ltb b k) 1 0 + cond (eqb b k) 1 0
one-more b k = grind (arith, nat_tests)

in_first-more : (g : Resolution) (k : ℕ) (S : List ℕ) → in_first g (k + 1) S ≡ in_first g k S + in_class g k S
in_first-more g k [] = omega arith
in_first-more g k (s ∷ S) =
    omega (
      arith,
      sum_by-cons (λ s. cond (ltb (bin_of g s) (k + 1)) 1 0) s S,
      sum_by-cons (λ s. cond (ltb (bin_of g s) k) 1 0) s S,
      sum_by-cons (λ s. cond (eqb (bin_of g s) k) 1 0) s S,
      one-more (bin_of g s) k,
      in_first-more g k S,
    )

-- the running sum of the numbers counts the samples of the first classes
pub running : (h : Plain) (S : List ℕ) (k : ℕ) → StandsFor h S → k ≤ length h.counts → sum (take k h.counts) ≡ in_first (resolution h) k S
running h S zero s le = sym (in_first-none (resolution h) S)
running h S (suc k) s le =
    rw (← add-one) (omega (arith, sum_by_more (λ x. x) h.counts k 0 (omega arith), s.numbers k (omega arith), in_first-more (resolution h) k S, running h S k s (omega arith)))

-- i is the first class where the sum of the numbers up to it reaches the rank
pub record FirstReaching (counts : List ℕ) (r i : ℕ) : Type 0 where
  pub in_bins : i < length counts
  pub reached : r ≤ sum (take (i + 1) counts)
  pub before : sum (take i counts) < r

-- the class where the running sum reaches a rank is that of the sample of the rank
pub class-of-rank : (h : Plain) (S : List ℕ) (k i : ℕ) → 0 < (resolution h).digits → StandsFor h S → k < length S → FirstReaching h.counts (k + 1) i
    → bin_of (resolution h) (get_or (sorted S) k 0) ≡ i
class-of-rank h S k i m s in_range first =
    let g = resolution h in
    let x : ℕ = get_or (sorted S) k 0 in
    let within : k < length (sorted S) = rw sorted-length in_range in
    let many : k < count_by (λ y. leb y x) S = rw (sym (sorted-count (λ y. leb y x) S)) (at-or-below (sorted S) k (sorted-Ascends S) within) in
    let few : count_by (λ y. ltb y x) S ≤ k = rw (sym (sorted-count (λ y. ltb y x) S)) (below (sorted S) k (sorted-Ascends S) within) in
    let upto = running h S (i + 1) s (omega (arith, first.in_bins)) in
    let before = running h S i s (omega (arith, first.in_bins)) in
    elim (cases_lt (bin_of g x) i) [
      | inl early ↦
          absurd (omega (arith, first.before, count-imp (λ y. leb y x) (λ y. ltb (bin_of g y) i) S (λ y t. ltb-yes (bin_of g y) i (omega (arith, bin-mono g y x m (leb-from y x t))))))
      | inr ge ↦ elim (cases_lt i (bin_of g x)) [
        | inl late ↦
            absurd (omega (arith, first.reached, count-imp (λ y. ltb (bin_of g y) (i + 1)) (λ y. ltb y x) S (λ y t. later g x y i m late (ltb-from (bin_of g y) (i + 1) t))))
        | inr le ↦ omega arith
      ]
    ]

pub in_first-all : (g : Resolution) (k : ℕ) (S : List ℕ) → All (λ s. bin_of g s < k) S → in_first g k S ≡ length S
in_first-all g k [] h = refl
in_first-all g k (s ∷ S) h =
    let e : ltb (bin_of g s) k ≡ true = ltb-yes (bin_of g s) k (All-head (λ s. bin_of g s < k) s S h) in
    omega (arith, sum_by-cons (λ s. cond (ltb (bin_of g s) k) 1 0) s S, ap {B = ℕ} (λ (b : Bool). cond b 1 0) e, in_first-all g k S (All-tail (λ s. bin_of g s < k) s S h))
