-- Which bins are picked, and in which order.
use Rattle.std.proofs.Common.{◌≡◌, ℕ, ◌+◌, ◌<◌, ◌≤◌, zero, suc, Bool, true, false, cond, List, [], ◌∷◌, ◌++◌, map, filter, sym, refl, ap, ◌∙◌, subst, ⊎_elim, arith}
use Rattle.std.specs.List.{range_with_len, Contains}
use Rattle.std.proofs.lemmas.Bool.{cases_lt, cases_Bool}
use Rattle.std.proofs.lemmas.List.Elements.{Contains-append_left, Contains-append_right, Contains-append_cases, Contains-push, Contains-push_cases}
use Rattle.hdr_iterators.specs.Picks.{places, RiseFrom}
use Rattle.hdr_iterators.specs.Places.{bin_pick}

pub places-of_bins : (bins : List ℕ) → places (map bin_pick bins) ≡ bins
places-of_bins [] = refl
places-of_bins (b ∷ bins) = ap (λ bs. b ∷ bs) (places-of_bins bins)

pub kept_all : (a n : ℕ) → filter (λ _. true) (range_with_len a n) ≡ range_with_len a n
kept_all a zero = refl
kept_all a (suc n) = ap (λ bs. a ∷ bs) (kept_all (a + 1) n)

-- what is kept of a range passes the test
pub kept_pass : (p : ℕ → Bool) (a n i : ℕ) → Contains (filter p (range_with_len a n)) i → (a ≤ i) × (i < a + n) × (p i ≡ true)
kept_pass p a zero i h = absurd (omega (arith, h.1))
kept_pass p a (suc n) i h =
    let rest : List ℕ = filter p (range_with_len (a + 1) n) in
    ⊎_elim
    (λ (yes : p a ≡ true).
    let there : Contains ((a ∷ []) ++ rest) i = subst (λ b. Contains (cond b (a ∷ rest) rest) i) yes h in
    ⊎_elim
    (λ (l : Contains (a ∷ []) i).
    ⊎_elim
    (λ (e : Contains [] i). absurd (omega (arith, e.1)))
    (λ (same : a ≡ i). (omega (arith, same), omega (arith, same), ap p (sym same) ∙ yes))
    (Contains-push_cases [] a i l))
    (λ (r : Contains rest i).
    let d = kept_pass p (a + 1) n i r in
    (omega (arith, d.0), omega (arith, d.1), d.2))
    (Contains-append_cases (a ∷ []) rest i there))
    (λ (no : p a ≡ false).
    let d = kept_pass p (a + 1) n i (subst (λ b. Contains (cond b (a ∷ rest) rest) i) no h) in
    (omega (arith, d.0), omega (arith, d.1), d.2))
    (cases_Bool (p a))

-- and what passes it is kept
pub pass_kept : (p : ℕ → Bool) (a n i : ℕ) → a ≤ i → i < a + n → p i ≡ true → Contains (filter p (range_with_len a n)) i
pass_kept p a zero i l m t = absurd (omega (arith, l, m))
pass_kept p a (suc n) i l m t =
    let rest : List ℕ = filter p (range_with_len (a + 1) n) in
    ⊎_elim
    (λ (lt : a < i).
    let r : Contains rest i = pass_kept p (a + 1) n i (omega (arith, lt)) (omega (arith, m)) t in
    elim (p a) as (λ b. Contains (cond b (a ∷ rest) rest) i) [ true ↦ Contains-append_right (a ∷ []) rest i r | false ↦ r ])
    (λ (ge : i ≤ a).
    let same : a ≡ i = omega (arith, l, ge) in
    let yes : p a ≡ true = ap p same ∙ t in
    let here : Contains (a ∷ []) i = subst (Contains (a ∷ [])) same (Contains-push [] a) in
    subst (λ b. Contains (cond b (a ∷ rest) rest) i) (sym yes) (Contains-append_left (a ∷ []) rest i here))
    (cases_lt a i)

RiseFrom-less : (a : ℕ) (ns : List ℕ) → RiseFrom (a + 1) ns → RiseFrom a ns
RiseFrom-less a [] r = tt
RiseFrom-less a (n ∷ ns) r = (omega (arith, r.0), r.1)

pub kept_rise : (p : ℕ → Bool) (a n : ℕ) → RiseFrom a (filter p (range_with_len a n))
kept_rise p a zero = tt
kept_rise p a (suc n) =
    let rest : List ℕ = filter p (range_with_len (a + 1) n) in
    let rise : RiseFrom (a + 1) rest = kept_rise p (a + 1) n in
    elim (p a) as (λ b. RiseFrom a (cond b (a ∷ rest) rest)) [ true ↦ (omega arith, rise) | false ↦ RiseFrom-less a rest rise ]
