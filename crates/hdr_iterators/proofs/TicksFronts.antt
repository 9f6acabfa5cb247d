-- How many numbers of a range pass a test, where the test fails after each number that fails.
use Rattle.std.proofs.Common.{◌≡◌, ℕ, ◌+◌, ◌-◌, ◌<◌, ◌≤◌, zero, suc, Bool, true, false, cond, count_by, sym, refl, ap, ◌∙◌, ⊎_elim, arith}
use Rattle.std.proofs.lemmas.Bool.{false≢true, cases_lt, cases_Bool}
use Rattle.std.proofs.lemmas.List.Sums.{sum_by-cons}
use Rattle.std.specs.List.{range_with_len}

abbrev pub ones : Bool → ℕ
ones b = cond b 1 0

-- the test holds at each number before one where it holds
abbrev pub IsFront : (ℕ → Bool) → Type 0
IsFront p = (k : ℕ) → p (k + 1) ≡ true → p k ≡ true

pub count_first : (p : ℕ → Bool) (a n : ℕ) → count_by p (range_with_len a (suc n)) ≡ ones (p a) + count_by p (range_with_len (a + 1) n)
count_first p a n = sum_by-cons (λ x. ones (p x)) a (range_with_len (a + 1) n)

pub count_last : (p : ℕ → Bool) (a n : ℕ) → count_by p (range_with_len a (suc n)) ≡ count_by p (range_with_len a n) + ones (p (a + n))
count_last p a zero =
    let e : a + 0 ≡ a = omega arith in
    let f : ones (p (a + 0)) ≡ ones (p a) = ap (λ k. ones (p k)) e in
    omega (arith, count_first p a 0, f)
count_last p a (suc n) =
    let e : a + 1 + n ≡ a + suc n = omega arith in
    let f : ones (p (a + 1 + n)) ≡ ones (p (a + suc n)) = ap (λ k. ones (p k)) e in
    omega (arith, count_first p a (suc n), count_first p a n, count_last p (a + 1) n, f)

pub count_same : (p q : ℕ → Bool) (a b n : ℕ) → ((j : ℕ) → p (a + j) ≡ q (b + j)) → count_by p (range_with_len a n) ≡ count_by q (range_with_len b n)
count_same p q a b zero h = refl
count_same p q a b (suc n) h =
    let z : a + 0 ≡ a = omega arith in
    let y : b + 0 ≡ b = omega arith in
    let e : p a ≡ q b = ap p (sym z) ∙ (h 0 ∙ ap q y) in
    let f : ones (p a) ≡ ones (q b) = ap ones e in
    let on : (j : ℕ) → p (a + 1 + j) ≡ q (b + 1 + j) = λ j.
    let u : a + 1 + j ≡ a + suc j = omega arith in
    let v : b + suc j ≡ b + 1 + j = omega arith in
    ap p u ∙ (h (suc j) ∙ ap q v) in
    omega (arith, count_first p a n, count_first q b n, f, count_same p q (a + 1) (b + 1) n on)

pub holds_before : (p : ℕ → Bool) → IsFront p → (k d : ℕ) → p (k + d) ≡ true → p k ≡ true
holds_before p h k zero t =
    let e : k ≡ k + 0 = omega arith in
    ap p e ∙ t
holds_before p h k (suc d) t =
    let e : k + d + 1 ≡ k + suc d = omega arith in
    holds_before p h k d (h (k + d) (ap p e ∙ t))

pub fails_behind : (p : ℕ → Bool) → IsFront p → (k j : ℕ) → k ≤ j → p k ≡ false → p j ≡ false
fails_behind p h k j l f =
    ⊎_elim
    (λ (y : p j ≡ true).
    let e : k + (j - k) ≡ j = omega (arith, l) in
    absurd (false≢true (sym f ∙ holds_before p h k (j - k) (ap p e ∙ y))))
    (λ (n : p j ≡ false). n)
    (cases_Bool (p j))

pub count_none : (p : ℕ → Bool) → IsFront p → (n a : ℕ) → p a ≡ false → count_by p (range_with_len a n) ≡ 0
count_none p h zero a f = refl
count_none p h (suc n) a f =
    let e : ones (p a) ≡ 0 = ap ones f in
    omega (arith, count_first p a n, e, count_none p h n (a + 1) (fails_behind p h a (a + 1) (omega arith) f))

pub count_past : (p : ℕ → Bool) → IsFront p → (n a k : ℕ) → a ≤ k → k < a + n → p k ≡ true → k < a + count_by p (range_with_len a n)
count_past p h zero a k l m t = absurd (omega (arith, l, m))
count_past p h (suc n) a k l m t =
    let back : a + (k - a) ≡ k = omega (arith, l) in
    let e : ones (p a) ≡ 1 = ap ones (holds_before p h a (k - a) (ap p back ∙ t)) in
    ⊎_elim
    (λ (lt : a < k). omega (arith, count_first p a n, e, count_past p h n (a + 1) k (omega (arith, lt)) (omega (arith, m)) t))
    (λ (ge : k ≤ a). omega (arith, count_first p a n, e, ge))
    (cases_lt a k)

small : (b : Bool) → ones b ≤ 1
small true = omega arith
small false = omega arith

pub count_upto : (p : ℕ → Bool) → IsFront p → (n a k : ℕ) → a ≤ k → p k ≡ false → a + count_by p (range_with_len a n) ≤ k
count_upto p h zero a k l f = omega (arith, l)
count_upto p h (suc n) a k l f =
    ⊎_elim
    (λ (lt : a < k).
    omega (arith, count_first p a n, small (p a), count_upto p h n (a + 1) k (omega (arith, lt)) f))
    (λ (ge : k ≤ a).
    let at : a ≡ k = omega (arith, l, ge) in
    omega (arith, at, count_none p h (suc n) a (ap p at ∙ f)))
    (cases_lt a k)

-- a test that holds wherever another does counts no fewer
less : (b c : Bool) → (b ≡ true → c ≡ true) → ones b ≤ ones c
less false c h = omega arith
less true c h =
    let e : ones c ≡ 1 = ap ones (h refl) in
    omega (arith, e)

pub count_le : (p q : ℕ → Bool) → ((k : ℕ) → p k ≡ true → q k ≡ true) → (n a : ℕ) → count_by p (range_with_len a n) ≤ count_by q (range_with_len a n)
count_le p q h zero a = omega arith
count_le p q h (suc n) a =
    omega (arith, count_first p a n, count_first q a n, less (p a) (q a) (h a), count_le p q h n (a + 1))
