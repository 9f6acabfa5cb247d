-- The lists of all bins and of the nonempty ones, one bin on.
use Rattle.std.proofs.Common.{◌≡◌, ◌≢◌, ℕ, ◌+◌, ◌-◌, ◌<◌, ◌≤◌, zero, suc, Bool, true, false, cond, eqb, ltb, [], ◌∷◌, get_or, map, Option, Some, None, sym, refl, ap, ◌∙◌, subst, ⊎_elim, arith, rules, tests, eq-eqb}
use Rattle.std.proofs.lemmas.Bool.{false≢true, cases_lt, cases_Bool, eqb-true, ltb-true}
use Rattle.std.specs.List.{range_with_len, filter}
use Rattle.std.specs.Option.{option_eq}
use Rattle.hdr_iterators.specs.Seen.{Seen, AreBins, bins_in}
use Rattle.hdr_iterators.specs.Picks.{NoneBefore, AllBefore, AllFilled, IsAtEnd, bin_after}
use Rattle.hdr_iterators.specs.Places.{bin_pick, bins_from, is_nonempty}

range_within : (a n m : ℕ) → a + n ≤ m → AllBefore m (map bin_pick (range_with_len a n))
range_within a zero m l = tt
range_within a (suc n) m l = (omega (arith, l), range_within (a + 1) n m (omega (arith, l)))

range_ahead : (a n m : ℕ) → m ≤ a → NoneBefore m (map bin_pick (range_with_len a n))
range_ahead a zero m l = tt
range_ahead a (suc n) m l = (l, range_ahead (a + 1) n m (omega (arith, l)))

-- a range that starts at i and isn't empty
range_more : (a n : ℕ) → 0 < n → range_with_len a n ≡ a ∷ range_with_len (a + 1) (n - 1)
range_more a zero l = absurd (omega (arith, l))
range_more a (suc n) l = ap (λ k. a ∷ range_with_len (a + 1) k) (omega arith)

kept_within : (p : ℕ → Bool) (a n m : ℕ) → a + n ≤ m → AllBefore m (map bin_pick (filter p (range_with_len a n)))
kept_within p a zero m l = tt
kept_within p a (suc n) m l =
    let rest : AllBefore m (map bin_pick (filter p (range_with_len (a + 1) n))) = kept_within p (a + 1) n m (omega (arith, l)) in
    let first : a < m = omega (arith, l) in
    elim (p a) as (λ b. AllBefore m (map bin_pick (cond b (a ∷ filter p (range_with_len (a + 1) n)) (filter p (range_with_len (a + 1) n))))) [ true ↦ (first, rest) | false ↦ rest ]

kept_ahead : (p : ℕ → Bool) (a n m : ℕ) → m ≤ a → NoneBefore m (map bin_pick (filter p (range_with_len a n)))
kept_ahead p a zero m l = tt
kept_ahead p a (suc n) m l =
    let rest : NoneBefore m (map bin_pick (filter p (range_with_len (a + 1) n))) = kept_ahead p (a + 1) n m (omega (arith, l)) in
    elim (p a) as (λ b. NoneBefore m (map bin_pick (cond b (a ∷ filter p (range_with_len (a + 1) n)) (filter p (range_with_len (a + 1) n))))) [ true ↦ (l, rest) | false ↦ rest ]

not_first : (p : ℕ → Bool) (a n i : ℕ) → a < i → NoneBefore i (map bin_pick (filter p (range_with_len a (suc n)))) → p a ≡ false
not_first p a n i lt h =
    ⊎_elim
    (λ (yes : p a ≡ true).
    let k : NoneBefore i (map bin_pick (a ∷ filter p (range_with_len (a + 1) n))) = subst (λ b. NoneBefore i (map bin_pick (cond b (a ∷ filter p (range_with_len (a + 1) n)) (filter p (range_with_len (a + 1) n))))) yes h in
    absurd (omega (arith, k.0)))
    (λ (no : p a ≡ false). no)
    (cases_Bool (p a))

-- if no bin from a up to i is kept, the range may start at i
kept_skip : (p : ℕ → Bool) (a n i : ℕ) → a ≤ i → i ≤ a + n → NoneBefore i (map bin_pick (filter p (range_with_len a n))) → filter p (range_with_len a n) ≡ filter p (range_with_len i (a + n - i))
kept_skip p a zero i l m h =
    let e : 0 ≡ a + 0 - i = omega arith in
    ap (λ k. filter p (range_with_len i k)) e
kept_skip p a (suc n) i l m h =
    ⊎_elim
    (λ (lt : a < i).
    let no : p a ≡ false = not_first p a n i lt h in
    let skip : filter p (range_with_len a (suc n)) ≡ filter p (range_with_len (a + 1) n) = ap (λ b. cond b (a ∷ filter p (range_with_len (a + 1) n)) (filter p (range_with_len (a + 1) n))) no in
    let ahead : NoneBefore i (map bin_pick (filter p (range_with_len (a + 1) n))) = subst (λ q. NoneBefore i (map bin_pick q)) skip h in
    let rest : filter p (range_with_len (a + 1) n) ≡ filter p (range_with_len i (a + 1 + n - i)) = kept_skip p (a + 1) n i (omega arith) (omega arith) ahead in
    let e : a + 1 + n - i ≡ a + suc n - i = omega arith in
    skip ∙ (rest ∙ ap (λ k. filter p (range_with_len i k)) e))
    (λ (ge : i ≤ a).
    let e : a ≡ i = omega arith in
    let f : suc n ≡ a + suc n - i = omega arith in
    ap (λ k. filter p (range_with_len a k)) f ∙ ap (λ q. filter p (range_with_len q (a + suc n - i))) e)
    (cases_lt a i)

kept_none : (p : ℕ → Bool) (a n : ℕ) → ((k : ℕ) → a ≤ k → p k ≡ false) → filter p (range_with_len a n) ≡ []
kept_none p a zero h = refl
kept_none p a (suc n) h =
    let rest = kept_none p (a + 1) n (λ k l. h k (omega (arith, l))) in
    rw (h a (omega arith)) rest

pub all_within : (h : Seen) → AllBefore (bins_in h) (map bin_pick (bins_from h 0))
all_within h = range_within 0 (bins_in h - 0) (bins_in h) (omega arith)

pub recorded_within : (h : Seen) → AllBefore (bins_in h) (map bin_pick (filter (is_nonempty h) (bins_from h 0)))
recorded_within h = kept_within (is_nonempty h) 0 (bins_in h - 0) (bins_in h) (omega arith)

same_place : (v : Option ℕ) (i : ℕ) → option_eq eqb v (Some i) ≡ true → bin_after v ≡ i + 1
same_place None i e = absurd (false≢true e)
same_place (Some j) i e = ap (λ k. k + 1) (eqb-true j i e)

other_place : (v : Option ℕ) (i : ℕ) → option_eq eqb v (Some i) ≡ false → bin_after v ≡ i + 1 → ⊥
other_place None i e f = omega (arith, f)
other_place (Some j) i e f =
    let same : j ≡ i = omega (arith, f) in
    false≢true (sym e ∙ eq-eqb j i same)

pub all_past : (h : Seen) (v : Option ℕ) (i : ℕ) → option_eq eqb v (Some i) ≡ true → NoneBefore (i + 1) (map bin_pick (bins_from h (bin_after v)))
all_past h v i e = range_ahead (bin_after v) (bins_in h - bin_after v) (i + 1) (omega (arith, same_place v i e))

pub recorded_past : (h : Seen) (v : Option ℕ) (i : ℕ) → option_eq eqb v (Some i) ≡ true → NoneBefore (i + 1) (map bin_pick (filter (is_nonempty h) (bins_from h (bin_after v))))
recorded_past h v i e = kept_ahead (is_nonempty h) (bin_after v) (bins_in h - bin_after v) (i + 1) (omega (arith, same_place v i e))

-- the picks of a range that starts at k are at k first
begins : (k n i : ℕ) → k ≤ i → 0 < n → NoneBefore i (map bin_pick (range_with_len k n)) → k ≡ i
begins k n i l m h =
    let q : NoneBefore i (map bin_pick (k ∷ range_with_len (k + 1) (n - 1))) = subst (λ z. NoneBefore i (map bin_pick z)) (range_more k n m) h in
    omega (arith, l, q.0)

pub all_next : (h : Seen) (v : Option ℕ) (i : ℕ) → i < bins_in h → bin_after v ≤ i + 1 → option_eq eqb v (Some i) ≡ false → NoneBefore i (map bin_pick (bins_from h (bin_after v))) → map bin_pick (bins_from h (bin_after v)) ≡ bin_pick i ∷ map bin_pick (bins_from h (i + 1))
all_next h v i l m e a =
    let ne : bin_after v ≢ i + 1 = other_place v i e in
    let at : bin_after v ≡ i = begins (bin_after v) (bins_in h - bin_after v) i (omega arith) (omega arith) a in
    let n_is : bins_in h - i - 1 ≡ bins_in h - (i + 1) = omega arith in
    ap (λ k. map bin_pick (bins_from h k)) at ∙ (ap (map bin_pick) (range_more i (bins_in h - i) (omega arith)) ∙ ap (λ k. bin_pick i ∷ map bin_pick (range_with_len (i + 1) k)) n_is)

-- the kept bins from k on, by those from i on, if none before i is kept
from_there : (h : Seen) (k i : ℕ) → k ≤ i → i < bins_in h → NoneBefore i (map bin_pick (filter (is_nonempty h) (bins_from h k))) → filter (is_nonempty h) (bins_from h k) ≡ filter (is_nonempty h) (i ∷ bins_from h (i + 1))
from_there h k i l m a =
    let skip = kept_skip (is_nonempty h) k (bins_in h - k) i l (omega arith) a in
    let n_is : k + (bins_in h - k) - i ≡ bins_in h - i = omega arith in
    let more : range_with_len i (bins_in h - i) ≡ i ∷ range_with_len (i + 1) (bins_in h - i - 1) = range_more i (bins_in h - i) (omega arith) in
    let r_is : bins_in h - i - 1 ≡ bins_in h - (i + 1) = omega arith in
    skip ∙ (ap (λ n. filter (is_nonempty h) (range_with_len i n)) n_is ∙ (ap (filter (is_nonempty h)) more ∙ ap (λ n. filter (is_nonempty h) (i ∷ range_with_len (i + 1) n)) r_is))

nonempty_is : (h : Seen) (i : ℕ) → 0 < get_or h.numbers i 0 → is_nonempty h i ≡ true
nonempty_is h i l = search (rules, tests)

empty_is : (h : Seen) (i : ℕ) → get_or h.numbers i 0 ≡ 0 → is_nonempty h i ≡ false
empty_is h i e = ap (ltb 0) e

pub recorded_next : (h : Seen) (v : Option ℕ) (i : ℕ) → i < bins_in h → bin_after v ≤ i + 1 → 0 < get_or h.numbers i 0 → option_eq eqb v (Some i) ≡ false → NoneBefore i (map bin_pick (filter (is_nonempty h) (bins_from h (bin_after v)))) → map bin_pick (filter (is_nonempty h) (bins_from h (bin_after v))) ≡ bin_pick i ∷ map bin_pick (filter (is_nonempty h) (bins_from h (i + 1)))
recorded_next h v i l m n e a =
    let ne : bin_after v ≢ i + 1 = other_place v i e in
    let there = from_there h (bin_after v) i (omega arith) l a in
    let yes = ap (λ b. map bin_pick (cond b (i ∷ filter (is_nonempty h) (bins_from h (i + 1))) (filter (is_nonempty h) (bins_from h (i + 1))))) (nonempty_is h i n) in
    ap (map bin_pick) there ∙ yes

pub recorded_empty : (h : Seen) (v : Option ℕ) (i : ℕ) → i < bins_in h → get_or h.numbers i 0 ≡ 0 → NoneBefore i (map bin_pick (filter (is_nonempty h) (bins_from h (bin_after v)))) → NoneBefore (i + 1) (map bin_pick (filter (is_nonempty h) (bins_from h (bin_after v))))
recorded_empty h v i l z a =
    ⊎_elim
    (λ (lt : i < bin_after v). kept_ahead (is_nonempty h) (bin_after v) (bins_in h - bin_after v) (i + 1) (omega arith))
    (λ (ge : bin_after v ≤ i).
    let there = from_there h (bin_after v) i ge l a in
    let no = ap (λ b. map bin_pick (cond b (i ∷ filter (is_nonempty h) (bins_from h (i + 1))) (filter (is_nonempty h) (bins_from h (i + 1))))) (empty_is h i z) in
    subst (NoneBefore (i + 1)) (sym (ap (map bin_pick) there ∙ no)) (kept_ahead (is_nonempty h) (i + 1) (bins_in h - (i + 1)) (i + 1) (omega arith)))
    (cases_lt i (bin_after v))

pub recorded_end : (h : Seen) (v last : Option ℕ) → AreBins h → v ≡ last → IsAtEnd h last → map bin_pick (filter (is_nonempty h) (bins_from h (bin_after v))) ≡ []
recorded_end h v last p e end =
    let at : bin_after v ≡ bin_after last = ap bin_after e in
    ap (map bin_pick) (kept_none (is_nonempty h) (bin_after v) (bins_in h - bin_after v) (λ k l. empty_is h k (p.none_above k (omega (arith, at, l, end)))))

-- each pick of a nonempty bin is one
kept_filled : (h : Seen) (a n : ℕ) → AllFilled h (map bin_pick (filter (is_nonempty h) (range_with_len a n)))
kept_filled h a zero = tt
kept_filled h a (suc n) =
    let rest : AllFilled h (map bin_pick (filter (is_nonempty h) (range_with_len (a + 1) n))) = kept_filled h (a + 1) n in
    ⊎_elim
    (λ (yes : is_nonempty h a ≡ true).
    let some : 0 < get_or h.numbers a 0 = ltb-true 0 (get_or h.numbers a 0) yes in
    subst (λ b. AllFilled h (map bin_pick (cond b (a ∷ filter (is_nonempty h) (range_with_len (a + 1) n)) (filter (is_nonempty h) (range_with_len (a + 1) n))))) (sym yes) (some, rest))
    (λ (no : is_nonempty h a ≡ false).
    subst (λ b. AllFilled h (map bin_pick (cond b (a ∷ filter (is_nonempty h) (range_with_len (a + 1) n)) (filter (is_nonempty h) (range_with_len (a + 1) n))))) (sym no) rest)
    (cases_Bool (is_nonempty h a))

pub recorded_filled : (h : Seen) (v : Option ℕ) → AllFilled h (map bin_pick (filter (is_nonempty h) (bins_from h (bin_after v))))
recorded_filled h v = kept_filled h (bin_after v) (bins_in h - bin_after v)
