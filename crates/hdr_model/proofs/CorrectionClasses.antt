-- How many classes hold a value, one class more at a time.
use Rattle.std.proofs.Common.{zero-add, ◌≡◌, ◌≢◌, ℕ, zero, suc, ◌+◌, ◌<◌, ◌≤◌, ◌⊎◌, Bool, true, false, cond, eqb, ltb, List, [], ◌∷◌, ◌++◌, length, count_by, refl, sym, ap, ◌∙◌, arith, inl, inr}
use Rattle.std.specs.List.{All, range_with_len}
use Rattle.std.proofs.lemmas.Bool.Decides.{nat_tests}
use Rattle.std.proofs.lemmas.Bool.{cases_eq}
use Rattle.std.proofs.lemmas.List.Sums.{sum_by-append, sum_by-cons, count_by-le-length}
use Rattle.std.proofs.lemmas.List.FromFn.{length-range_with_len}
use Rattle.std.proofs.lemmas.List.Elements.{All-head, All-tail}
use Rattle.hdr_base.specs.Classes.{Resolution, bin_of}
use Rattle.hdr_model.specs.Samples.{in_class}
use Rattle.hdr_model.specs.Correction.{classes_held}
use Rattle.hdr_model.proofs.RecordingStands.{eqb-other}

eqb-is : (a b : ℕ) → a ≡ b → eqb a b ≡ true
eqb-is a b e = grind (arith, nat_tests)

pub all-in-class : (g : Resolution) (b : ℕ) (xs : List ℕ) → All (λ y. bin_of g y ≡ b) xs → in_class g b xs ≡ length xs
all-in-class g b [] h = refl
all-in-class g b (x ∷ xs) h =
    sum_by-cons (λ s. cond (eqb (bin_of g s) b) 1 0) x xs
    ∙ (let e : eqb (bin_of g x) b ≡ true = eqb-is (bin_of g x) b (All-head (λ y. bin_of g y ≡ b) x xs h) in
    let rest : in_class g b xs ≡ length xs = all-in-class g b xs (All-tail (λ y. bin_of g y ≡ b) x xs h) in
    rw e (omega arith))

pub none-in-class : (g : Resolution) (b : ℕ) (xs : List ℕ) → All (λ y. bin_of g y ≢ b) xs → in_class g b xs ≡ 0
none-in-class g b [] h = refl
none-in-class g b (x ∷ xs) h =
    sum_by-cons (λ s. cond (eqb (bin_of g s) b) 1 0) x xs
    ∙ (let e : eqb (bin_of g x) b ≡ false = eqb-other (bin_of g x) b (All-head (λ y. bin_of g y ≢ b) x xs h) in
    let rest : in_class g b xs ≡ 0 = none-in-class g b xs (All-tail (λ y. bin_of g y ≢ b) x xs h) in
    rw e (omega arith))

not-in-other : (g : Resolution) (b c : ℕ) (xs : List ℕ) → c ≢ b → All (λ y. bin_of g y ≡ b) xs → in_class g c xs ≡ 0
not-in-other g b c [] other h = refl
not-in-other g b c (x ∷ xs) other h =
    let here = All-head (λ y. bin_of g y ≡ b) x xs h in
    sum_by-cons (λ s. cond (eqb (bin_of g s) c) 1 0) x xs
    ∙ (let e : eqb (bin_of g x) c ≡ false = eqb-other (bin_of g x) c (λ s. other (sym s ∙ here)) in
    let rest : in_class g c xs ≡ 0 = not-in-other g b c xs other (All-tail (λ y. bin_of g y ≡ b) x xs h) in
    rw e (omega arith))

-- two tests that differ at one number alone
module _ (p q : ℕ → Bool) (b : ℕ) (same : (c : ℕ) → c ≢ b → p c ≡ q c) (yes : p b ≡ true) (no : q b ≡ false) where
  count-away : (a n : ℕ) → (b < a) ⊎ (a + n ≤ b) → count_by p (range_with_len a n) ≡ count_by q (range_with_len a n)
  count-away a zero away = refl
  count-away a (suc n) away =
      let here : p a ≡ q a = same a (λ e. elim away [ inl lt ↦ absurd (omega arith) | inr le ↦ absurd (omega arith) ]) in
      let rest : count_by p (range_with_len (a + 1) n) ≡ count_by q (range_with_len (a + 1) n) =
      count-away (a + 1) n (elim away [ inl lt ↦ inl (omega arith) | inr le ↦ inr (omega arith) ]) in
      sum_by-cons (λ c. cond (p c) 1 0) a (range_with_len (a + 1) n)
      ∙ rw here (ap (λ k. cond (q a) 1 0 + k) rest)
      ∙ sym (sum_by-cons (λ c. cond (q c) 1 0) a (range_with_len (a + 1) n))

  count-once : (a n : ℕ) → a ≤ b → b < a + n → count_by p (range_with_len a n) ≡ 1 + count_by q (range_with_len a n)
  count-once a zero le lt = absurd (omega arith)
  count-once a (suc n) le lt =
      let first = sum_by-cons (λ c. cond (p c) 1 0) a (range_with_len (a + 1) n) in
      let second = sum_by-cons (λ c. cond (q c) 1 0) a (range_with_len (a + 1) n) in
      elim (cases_eq a b) [
        | inl e ↦ (
            let in_p : p a ≡ true = ap p e ∙ yes in
            let in_q : q a ≡ false = ap q e ∙ no in
            let rest : count_by p (range_with_len (a + 1) n) ≡ count_by q (range_with_len (a + 1) n) = count-away (a + 1) n (inl (omega arith)) in
            let one : cond {A = ℕ} (p a) 1 0 ≡ 1 = ap {B = ℕ} (λ (t : Bool). cond t 1 0) in_p in
            let none : cond {A = ℕ} (q a) 1 0 ≡ 0 = ap {B = ℕ} (λ (t : Bool). cond t 1 0) in_q in
            omega arith
            )
        | inr other ↦ (
            let here : cond {A = ℕ} (p a) 1 0 ≡ cond {A = ℕ} (q a) 1 0 = ap {B = ℕ} (λ (t : Bool). cond t 1 0) (same a other) in
            let rest : count_by p (range_with_len (a + 1) n) ≡ 1 + count_by q (range_with_len (a + 1) n) = count-once (a + 1) n (omega arith) (omega arith) in
            omega arith
            )
      ]

ltb-zero : (n : ℕ) → n ≡ 0 → ltb 0 n ≡ false
ltb-zero n e = grind (arith, nat_tests)

ltb-some : (n : ℕ) → 0 < n → ltb 0 n ≡ true
ltb-some n h = grind (arith, nat_tests)

-- values of one class, before values of others, are one class more
pub held-more : (g : Resolution) (classes b : ℕ) (xs ys : List ℕ) → b < classes → 0 < length xs → All (λ y. bin_of g y ≡ b) xs → All (λ y. bin_of g y ≢ b) ys
    → classes_held g classes (xs ++ ys) ≡ 1 + classes_held g classes ys
unfolding classes_held
held-more g classes b xs ys room some inside outside =
    let split : (c : ℕ) → in_class g c (xs ++ ys) ≡ in_class g c xs + in_class g c ys = λ c. sum_by-append (λ s. cond (eqb (bin_of g s) c) 1 0) xs ys in
    count-once (λ c. ltb 0 (in_class g c (xs ++ ys))) (λ c. ltb 0 (in_class g c ys)) b
    (λ c other. ap (λ k. ltb 0 k) (let e : in_class g c (xs ++ ys) ≡ in_class g c ys = omega (arith, split c, not-in-other g b c xs other inside) in e))
    (ltb-some (in_class g b (xs ++ ys)) (omega (arith, split b, all-in-class g b xs inside)))
    (ltb-zero (in_class g b ys) (none-in-class g b ys outside))
    0 classes (omega arith) (omega arith)

pub held-le : (g : Resolution) (classes : ℕ) (xs : List ℕ) → classes_held g classes xs ≤ classes
unfolding classes_held
held-le g classes xs =
    omega (arith, count_by-le-length (λ b. ltb 0 (in_class g b xs)) (range_with_len 0 classes), length-range_with_len 0 classes)

pub held-none : (g : Resolution) (classes : ℕ) → classes_held g classes [] ≡ 0
unfolding classes_held
held-none g classes = none-held classes 0
  where
    none-held : (n a : ℕ) → count_by (λ b. ltb 0 (in_class g b [])) (range_with_len a n) ≡ 0
    none-held zero a = refl
    none-held (suc n) a = sum_by-cons (λ b. cond (ltb 0 (in_class g b [])) 1 0) a (range_with_len (a + 1) n) ∙ zero-add (count_by (λ b. ltb 0 (in_class g b [])) (range_with_len (a + 1) n)) ∙ none-held n (a + 1)
