-- Marks as numbers with a value for none.
use Rattle.std.proofs.Common.{◌≡◌, ◌≢◌, ℕ, ◌+◌, ◌-◌, ◌^◌, ◌%◌, ◌<◌, ◌≤◌, true, false, cond, eqb, min, max, Option, None, Some, refl, sym, ap, ◌∙◌, arith, inl, inr}
use Rattle.std.proofs.lemmas.Bool.Decides.{nat_tests}
use Rattle.std.proofs.lemmas.Bool.{cases_eq}
use Rattle.hdr_model.specs.Marks.{MarkPair, top_by, lower_by, later_mark, earlier_mark, later_of, earlier_of}

eqb-yes : (a b : ℕ) → a ≡ b → eqb a b ≡ true
eqb-yes a b e = grind (arith, nat_tests)

eqb-no : (a b : ℕ) → a ≢ b → eqb a b ≡ false
eqb-no a b n = grind (arith, nat_tests)

pub top-none : (n : ℕ) → n ≡ 0 → top_by n ≡ None
unfolding top_by
top-none n e = rw (eqb-yes n 0 e) refl

pub top-some : (n : ℕ) → n ≢ 0 → top_by n ≡ Some (n - 1)
unfolding top_by
top-some n e = rw (eqb-no n 0 e) refl

pub lower-none : (n : ℕ) → n ≡ 2 ^ 64 - 1 → lower_by n ≡ None
unfolding lower_by
lower-none n e = rw (eqb-yes n (2 ^ 64 - 1) e) refl

pub lower-some : (n : ℕ) → n ≢ 2 ^ 64 - 1 → lower_by n ≡ Some (n + 1)
unfolding lower_by
lower-some n e = rw (eqb-no n (2 ^ 64 - 1) e) refl

pub top-of-class : (n i : ℕ) → n ≡ i + 1 → top_by n ≡ Some i
top-of-class n i e = top-some n (λ z. omega arith) ∙ ap Some (let t : n - 1 ≡ i = omega arith in t)

pub lower-of-class : (n i : ℕ) → 0 < i → i < 2 ^ 32 → n ≡ i - 1 → lower_by n ≡ Some i
lower-of-class n i pos small e = lower-some n (λ z. omega arith) ∙ ap Some (let t : n + 1 ≡ i = omega arith in t)

-- the top mark widened by a class
pub top-later : (n i k : ℕ) → k ≡ max n (i + 1) → top_by k ≡ later_mark (top_by n) i
top-later n i k e =
    elim (cases_eq n 0) [
      | inl none ↦ top-of-class k i (omega arith) ∙ sym (ap (λ m. later_mark m i) (top-none n none))
      | inr some ↦ top-of-class k (max (n - 1) i) (omega arith) ∙ sym (ap (λ m. later_mark m i) (top-some n some))
    ]

earlier-first : (m : Option ℕ) → earlier_mark m 0 ≡ m
earlier-first None = refl
earlier-first (Some k) = refl

-- the lower mark widened by a class, of which b is the number before
pub lower-earlier : (n i b k : ℕ) → n ≤ 2 ^ 64 - 1 → (i ≡ 0 → b ≡ 2 ^ 64 - 1) → (0 < i → b ≡ i - 1) → i < 2 ^ 64 → k ≡ min n b → lower_by k ≡ earlier_mark (lower_by n) i
lower-earlier n i b k most first other small e =
    elim (cases_eq i 0) [
      | inl z ↦ (
          let same : k ≡ n = omega (arith, first z) in
          ap (λ j. lower_by j) same ∙ sym (ap (λ j. earlier_mark (lower_by n) j) z ∙ earlier-first (lower_by n))
          )
      | inr pos ↦ (
          let before : b ≡ i - 1 = other (omega arith) in
          let is : lower_by k ≡ Some (k + 1) = lower-some k (λ z. omega arith) in
          elim (cases_eq n (2 ^ 64 - 1)) [
            | inl none ↦
                is ∙ ap Some (let t : k + 1 ≡ i = omega arith in t)
                ∙ sym (ap (λ m. earlier_mark m i) (lower-none n none) ∙ ap (λ c. cond c None (Some i)) (eqb-no i 0 pos))
            | inr some ↦
                is ∙ ap Some (let t : k + 1 ≡ min (n + 1) i = omega arith in t)
                ∙ sym (ap (λ m. earlier_mark m i) (lower-some n some) ∙ ap (λ c. cond c (Some (n + 1)) (Some (min (n + 1) i))) (eqb-no i 0 pos))
          ]
          )
    ]

-- marks widened by those of another histogram
pub top-later_of : (n m k : ℕ) → k ≡ max n m → top_by k ≡ later_of (top_by n) (top_by m)
top-later_of n m k e =
    elim (cases_eq m 0) [
      | inl none ↦ ap (λ j. top_by j) (let t : k ≡ n = omega arith in t) ∙ sym (ap (λ o. later_of (top_by n) o) (top-none m none))
      | inr some ↦ top-later n (m - 1) k (omega arith) ∙ sym (ap (λ o. later_of (top_by n) o) (top-some m some))
    ]

pub lower-earlier_of : (n m k : ℕ) → n ≤ 2 ^ 64 - 1 → m ≤ 2 ^ 64 - 1 → k ≡ min n m → lower_by k ≡ earlier_of (lower_by n) (lower_by m)
lower-earlier_of n m k most fits e =
    elim (cases_eq m (2 ^ 64 - 1)) [
      | inl none ↦ ap (λ j. lower_by j) (let t : k ≡ n = omega arith in t) ∙ sym (ap (λ o. earlier_of (lower_by n) o) (lower-none m none))
      | inr some ↦ lower-earlier n (m + 1) m k most (λ z. absurd (omega arith)) (λ p. omega arith) (omega arith) e ∙ sym (ap (λ o. earlier_of (lower_by n) o) (lower-some m some))
    ]

-- the marks of two numbers
abbrev marked : ℕ → ℕ → MarkPair
marked classes before = record { top = top_by classes; lower = lower_by before }

-- marks that are widened number by number
pub widened : (n b m p i : ℕ) (v : MarkPair) → p ≤ 2 ^ 64 - 1 → i < 2 ^ 32 → n ≡ max m (i + 1) → b ≡ min p ((i + 18446744073709551615) % 18446744073709551616)
    → marked m p ≡ v
    → marked n b ≡ record { top = later_mark v.top i; lower = earlier_mark v.lower i }
widened n b m p i v most small top lower e =
    ap (λ (o : Option ℕ). record { top = o; lower = lower_by b }) (top-later m i n top)
    ∙ ap (λ (o : Option ℕ). record { top = later_mark (top_by m) i; lower = o })
    (lower-earlier p i ((i + 18446744073709551615) % 18446744073709551616) b most (λ e. omega (arith, e)) (λ pos. omega (arith, pos, small)) (omega (arith, small)) lower)
    ∙ ap (λ (w : MarkPair). record { top = later_mark w.top i; lower = earlier_mark w.lower i }) e
