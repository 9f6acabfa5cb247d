-- The list of picks of ticks, in parts by bins.
use Rattle.std.proofs.Common.{◌≡◌, ◌≢◌, ℕ, ◌+◌, ◌-◌, ◌^◌, ◌<◌, ◌≤◌, zero, suc, Bool, true, false, cond, ltb, eqb, ◌&&◌, List, [], ◌∷◌, ◌++◌, length, get_or, map, drop, filter, flat_map, sum, Option, sym, refl, ap, ap₂, ◌∙◌, subst, ◌⊎◌, inr, ⊎_elim, arith}
use Rattle.std.proofs.lemmas.Bool.{cases_lt, cases_Bool, lt-ltb, le-ltb, eq-eqb, ltb-true, false≢true}
use Rattle.std.proofs.lemmas.Bool.Decides.{eqb_tells}
use Rattle.std.proofs.lemmas.List.{append_assoc, length-append}
use Rattle.std.proofs.lemmas.List.Sums.{sum_by-take-le}
use Rattle.std.proofs.lemmas.List.FromFn.{length-map-range_with_len}
use Rattle.std.specs.List.{range_with_len}
use Rattle.hdr_iterators.specs.Seen.{Seen, AreBins, bins_in, below, running, capped}
use Rattle.hdr_iterators.specs.Picks.{Pick, NoneBefore, AllBefore, AllFilled, bin_after}
use Rattle.hdr_iterators.specs.Places.{tick_of, tick_pick, is_within, ticks_within, ticks_before, ticks_at, has_tick, is_nonempty, quantile_picks, all_of_them}
use Rattle.hdr_iterators.specs.Ticks.{IsOpen}
use Rattle.hdr_iterators.proofs.PicksSteps.{below_more, below-le}
use Rattle.hdr_iterators.proofs.TicksHalves.{within_counted, past_counted, ticks-le}

-- the picks of n bins_in, from bin a on
abbrev pub ticked_in : Seen → ℕ → ℕ → ℕ → List Pick
ticked_in h t a n = flat_map (ticks_at h t) (filter (has_tick h) (range_with_len a n))

-- the picks of one bin
abbrev pub own : Seen → ℕ → ℕ → List Pick
own h t b = cond (has_tick h b) (ticks_at h t b) []

one_bin : (h : Seen) (t a : ℕ) (c : Bool) (bs : List ℕ) → flat_map (ticks_at h t) (cond c (a ∷ bs) bs) ≡ cond c (ticks_at h t a) [] ++ flat_map (ticks_at h t) bs
one_bin h t a true bs = refl
one_bin h t a false bs = refl

pub ticked_first : (h : Seen) (t a n : ℕ) → ticked_in h t a (suc n) ≡ own h t a ++ ticked_in h t (a + 1) n
ticked_first h t a n = one_bin h t a (has_tick h a) (filter (has_tick h) (range_with_len (a + 1) n))

ticked_split : (h : Seen) (t a m n : ℕ) → ticked_in h t a (m + n) ≡ ticked_in h t a m ++ ticked_in h t (a + m) n
ticked_split h t a zero n =
    let e : zero + n ≡ n = omega arith in
    let f : a ≡ a + zero = omega arith in
    ap (ticked_in h t a) e ∙ ap (λ b. ticked_in h t b n) f
ticked_split h t a (suc m) n =
    let e : suc m + n ≡ suc (m + n) = omega arith in
    let f : a + 1 + m ≡ a + suc m = omega arith in
    ap (ticked_in h t a) e ∙ (ticked_first h t a (m + n)
    ∙ (ap (λ ps. own h t a ++ ps) (ticked_split h t (a + 1) m n ∙ ap (λ b. ticked_in h t (a + 1) m ++ ticked_in h t b n) f)
    ∙ (sym (append_assoc (own h t a) (ticked_in h t (a + 1) m) (ticked_in h t (a + suc m) n))
    ∙ ap (λ ps. ps ++ ticked_in h t (a + suc m) n) (sym (ticked_first h t a m)))))

split_at : (h : Seen) (t i n : ℕ) → ticked_in h t 0 (i + n) ≡ ticked_in h t 0 i ++ ticked_in h t i n
split_at h t i n =
    let e : 0 + i ≡ i = omega arith in
    ticked_split h t 0 i n ∙ ap (λ b. ticked_in h t 0 i ++ ticked_in h t b n) e

-- the list up to a bin and from it on
pub picks_split : (h : Seen) (t i : ℕ) → i ≤ bins_in h → quantile_picks h t ≡ ticked_in h t 0 i ++ ticked_in h t i (bins_in h - i)
picks_split h t i l =
    let e : bins_in h - 0 ≡ i + (bins_in h - i) = omega (arith, l) in
    ap (ticked_in h t 0) e ∙ split_at h t i (bins_in h - i)

pub picks_at : (h : Seen) (t i : ℕ) → i < bins_in h → quantile_picks h t ≡ ticked_in h t 0 i ++ (own h t i ++ ticked_in h t (i + 1) (bins_in h - (i + 1)))
picks_at h t i l =
    let e : bins_in h - i ≡ suc (bins_in h - (i + 1)) = omega (arith, l) in
    picks_split h t i (omega (arith, l)) ∙ ap (λ ps. ticked_in h t 0 i ++ ps) (ap (ticked_in h t i) e ∙ ticked_first h t i (bins_in h - (i + 1)))

ticked_last : (h : Seen) (t i : ℕ) → ticked_in h t 0 (i + 1) ≡ ticked_in h t 0 i ++ (own h t i ++ [])
ticked_last h t i = split_at h t i 1 ∙ ap (λ ps. ticked_in h t 0 i ++ ps) (ticked_first h t i 0)

-- where the picks are
AllBefore-append : (n : ℕ) (ps qs : List Pick) → AllBefore n ps → AllBefore n qs → AllBefore n (ps ++ qs)
AllBefore-append n [] qs a b = b
AllBefore-append n (p ∷ ps) qs a b = (a.0, AllBefore-append n ps qs a.1 b)

NoneBefore-append : (n : ℕ) (ps qs : List Pick) → NoneBefore n ps → NoneBefore n qs → NoneBefore n (ps ++ qs)
NoneBefore-append n [] qs a b = b
NoneBefore-append n (p ∷ ps) qs a b = (a.0, NoneBefore-append n ps qs a.1 b)

ticks_here_within : (t b m a n : ℕ) → b < m → AllBefore m (map (λ k. tick_pick b (tick_of t k)) (range_with_len a n))
ticks_here_within t b m a zero l = tt
ticks_here_within t b m a (suc n) l = (l, ticks_here_within t b m (a + 1) n l)

ticks_here_ahead : (t b m a n : ℕ) → m ≤ b → NoneBefore m (map (λ k. tick_pick b (tick_of t k)) (range_with_len a n))
ticks_here_ahead t b m a zero l = tt
ticks_here_ahead t b m a (suc n) l = (l, ticks_here_ahead t b m (a + 1) n l)

own_within : (h : Seen) (t b m : ℕ) → b < m → AllBefore m (own h t b)
own_within h t b m l =
    let open_part : List Pick = map (λ k. tick_pick b (tick_of t k)) (range_with_len (ticks_before h t b) (ticks_within t (running h b) h.total - ticks_before h t b)) in
    let end_part : List Pick = tick_pick b (tick_of t (ticks_before h t b)) ∷ tick_pick b all_of_them ∷ [] in
    let yes : AllBefore m (ticks_at h t b) = elim (ltb (running h b) h.total) as (λ c. AllBefore m (cond c open_part end_part)) [ true ↦ ticks_here_within t b m (ticks_before h t b) (ticks_within t (running h b) h.total - ticks_before h t b) l | false ↦ (l, (l, tt)) ] in
    elim (has_tick h b) as (λ c. AllBefore m (cond c (ticks_at h t b) [])) [ true ↦ yes | false ↦ tt ]

own_ahead : (h : Seen) (t b m : ℕ) → m ≤ b → NoneBefore m (own h t b)
own_ahead h t b m l =
    let open_part : List Pick = map (λ k. tick_pick b (tick_of t k)) (range_with_len (ticks_before h t b) (ticks_within t (running h b) h.total - ticks_before h t b)) in
    let end_part : List Pick = tick_pick b (tick_of t (ticks_before h t b)) ∷ tick_pick b all_of_them ∷ [] in
    let yes : NoneBefore m (ticks_at h t b) = elim (ltb (running h b) h.total) as (λ c. NoneBefore m (cond c open_part end_part)) [ true ↦ ticks_here_ahead t b m (ticks_before h t b) (ticks_within t (running h b) h.total - ticks_before h t b) l | false ↦ (l, (l, tt)) ] in
    elim (has_tick h b) as (λ c. NoneBefore m (cond c (ticks_at h t b) [])) [ true ↦ yes | false ↦ tt ]

ticked_within : (h : Seen) (t a n m : ℕ) → a + n ≤ m → AllBefore m (ticked_in h t a n)
ticked_within h t a zero m l = tt
ticked_within h t a (suc n) m l = subst (AllBefore m) (sym (ticked_first h t a n)) (AllBefore-append m (own h t a) (ticked_in h t (a + 1) n) (own_within h t a m (omega (arith, l))) (ticked_within h t (a + 1) n m (omega (arith, l))))

ticked_ahead : (h : Seen) (t a n m : ℕ) → m ≤ a → NoneBefore m (ticked_in h t a n)
ticked_ahead h t a zero m l = tt
ticked_ahead h t a (suc n) m l = subst (NoneBefore m) (sym (ticked_first h t a n)) (NoneBefore-append m (own h t a) (ticked_in h t (a + 1) n) (own_ahead h t a m l) (ticked_ahead h t (a + 1) n m (omega (arith, l))))

pub picks_within : (h : Seen) (t : ℕ) → AllBefore (bins_in h) (quantile_picks h t)
picks_within h t = ticked_within h t 0 (bins_in h - 0) (bins_in h) (omega arith)

-- each pick of a tick is of a nonempty bin
AllFilled-append : (h : Seen) (ps qs : List Pick) → AllFilled h ps → AllFilled h qs → AllFilled h (ps ++ qs)
AllFilled-append h [] qs a b = b
AllFilled-append h (p ∷ ps) qs a b = (a.0, AllFilled-append h ps qs a.1 b)

ticks_here_filled : (h : Seen) (t b a n : ℕ) → 0 < get_or h.numbers b 0 → AllFilled h (map (λ k. tick_pick b (tick_of t k)) (range_with_len a n))
ticks_here_filled h t b a zero l = tt
ticks_here_filled h t b a (suc n) l = (l, ticks_here_filled h t b (a + 1) n l)

ticked_some : (h : Seen) (b : ℕ) → has_tick h b ≡ true → 0 < get_or h.numbers b 0
ticked_some h b e =
    ⊎_elim
    (λ (yes : is_nonempty h b ≡ true). ltb-true 0 (get_or h.numbers b 0) yes)
    (λ (no : is_nonempty h b ≡ false). absurd (false≢true (sym (ap (λ c. c && ltb (capped (below h b)) h.total) no) ∙ e)))
    (cases_Bool (is_nonempty h b))

own_filled : (h : Seen) (t b : ℕ) → AllFilled h (own h t b)
own_filled h t b =
    let open_part : List Pick = map (λ k. tick_pick b (tick_of t k)) (range_with_len (ticks_before h t b) (ticks_within t (running h b) h.total - ticks_before h t b)) in
    let end_part : List Pick = tick_pick b (tick_of t (ticks_before h t b)) ∷ tick_pick b all_of_them ∷ [] in
    ⊎_elim
    (λ (yes : has_tick h b ≡ true).
    let l = ticked_some h b yes in
    let here : AllFilled h (ticks_at h t b) = elim (ltb (running h b) h.total) as (λ c. AllFilled h (cond c open_part end_part)) [ true ↦ ticks_here_filled h t b (ticks_before h t b) (ticks_within t (running h b) h.total - ticks_before h t b) l | false ↦ (l, (l, tt)) ] in
    subst (λ c. AllFilled h (cond c (ticks_at h t b) [])) (sym yes) here)
    (λ (no : has_tick h b ≡ false). subst (λ c. AllFilled h (cond c (ticks_at h t b) [])) (sym no) tt)
    (cases_Bool (has_tick h b))

ticked_filled : (h : Seen) (t a n : ℕ) → AllFilled h (ticked_in h t a n)
ticked_filled h t a zero = tt
ticked_filled h t a (suc n) = subst (AllFilled h) (sym (ticked_first h t a n)) (AllFilled-append h (own h t a) (ticked_in h t (a + 1) n) (own_filled h t a) (ticked_filled h t (a + 1) n))

drop_filled : (h : Seen) (k : ℕ) (ps : List Pick) → AllFilled h ps → AllFilled h (drop k ps)
drop_filled h zero ps a = a
drop_filled h (suc k) [] a = tt
drop_filled h (suc k) (p ∷ ps) a = drop_filled h k ps a.1

pub picks_filled : (h : Seen) (t k : ℕ) → AllFilled h (drop k (quantile_picks h t))
picks_filled h t k = drop_filled h k (quantile_picks h t) (ticked_filled h t 0 (bins_in h - 0))

-- a list after its first picks
drop_ahead : (i k : ℕ) (ps : List Pick) → NoneBefore i ps → NoneBefore i (drop k ps)
drop_ahead i zero ps a = a
drop_ahead i (suc k) [] a = tt
drop_ahead i (suc k) (p ∷ ps) a = drop_ahead i k ps a.1

drop_past : (ps qs : List Pick) (k : ℕ) → length ps ≤ k → drop k (ps ++ qs) ≡ drop (k - length ps) qs
drop_past [] qs k l =
    let e : k ≡ k - 0 = omega arith in
    ap (λ n. drop n qs) e
drop_past (p ∷ ps) qs zero l = absurd (omega (arith, l))
drop_past (p ∷ ps) qs (suc k) l =
    let e : k - length ps ≡ suc k - suc (length ps) = omega arith in
    drop_past ps qs k (omega (arith, l)) ∙ ap (λ n. drop n qs) e

-- if none is before i, all of them were yielded
reached : (i k : ℕ) (ps qs : List Pick) → AllBefore i ps → NoneBefore i (drop k (ps ++ qs)) → length ps ≤ k
reached i k [] qs a b = omega arith
reached i zero (p ∷ ps) qs a b = absurd (omega (arith, a.0, b.0))
reached i (suc k) (p ∷ ps) qs a b = omega (arith, reached i k ps qs a.1 b)

-- one that was not yielded is not before i
not_given : (i k : ℕ) (ps qs : List Pick) (p : Pick) → k ≤ length ps → NoneBefore i (drop k (ps ++ (p ∷ qs))) → i ≤ p.place
not_given i zero [] qs p l a = a.0
not_given i (suc k) [] qs p l a = absurd (omega (arith, l))
not_given i zero (q ∷ ps) qs p l a = not_given i 0 ps qs p (omega arith) a.1
not_given i (suc k) (q ∷ ps) qs p l a = not_given i k ps qs p (omega (arith, l)) a

drop_mapped : (f : ℕ → Pick) (a n k : ℕ) (qs : List Pick) → k < n → drop k (map f (range_with_len a n) ++ qs) ≡ f (a + k) ∷ drop (k + 1) (map f (range_with_len a n) ++ qs)
drop_mapped f a zero k qs l = absurd (omega (arith, l))
drop_mapped f a (suc n) zero qs l =
    let e : a ≡ a + 0 = omega arith in
    ap (λ j. f j ∷ (map f (range_with_len (a + 1) n) ++ qs)) e
drop_mapped f a (suc n) (suc k) qs l =
    let e : a + 1 + k ≡ a + suc k = omega arith in
    let on : suc (k + 1) ≡ suc k + 1 = omega arith in
    drop_mapped f (a + 1) n k qs (omega (arith, l)) ∙ (ap (λ j. f j ∷ drop (k + 1) (map f (range_with_len (a + 1) n) ++ qs)) e ∙ ap (λ j. f (a + suc k) ∷ drop j (map f (range_with_len a (suc n)) ++ qs)) on)

-- the ticks yielded before a bin
before_some : (h : Seen) (t b : ℕ) → 0 < below h b → ticks_before h t b ≡ ticks_within t (capped (below h b)) h.total
before_some h t b l = ap (λ c. cond c 0 (ticks_within t (capped (below h b)) h.total)) (⊎_elim (λ (y : (eqb (below h b) 0 ≡ true) × (below h b ≡ 0)). absurd (omega (arith, l, y.1))) (λ (y : (eqb (below h b) 0 ≡ false) × (below h b ≢ 0)). y.0) (eqb_tells (below h b) 0))

before_none : (h : Seen) (t b : ℕ) → below h b ≡ 0 → ticks_before h t b ≡ 0
before_none h t b e = ap (λ c. cond c 0 (ticks_within t (capped (below h b)) h.total)) (eq-eqb (below h b) 0 e)

pub before-le : (h : Seen) (t a b : ℕ) → a ≤ b → ticks_before h t a ≤ ticks_before h t b
before-le h t a b l =
    let m = below-le h a b l in
    ⊎_elim
    (λ (lt : 0 < below h a). omega (arith, before_some h t a lt, before_some h t b (omega (arith, m, lt)), ticks-le t (capped (below h a)) (capped (below h b)) h.total (omega (arith, m))))
    (λ (ge : below h a ≤ 0). omega (arith, before_none h t a (omega (arith, ge))))
    (cases_lt 0 (below h a))

nonempty_at : (h : Seen) (b : ℕ) → 0 < get_or h.numbers b 0 → is_nonempty h b ≡ true
nonempty_at h b l = lt-ltb 0 (get_or h.numbers b 0) l

ticked_yes : (h : Seen) (b : ℕ) → 0 < get_or h.numbers b 0 → capped (below h b) < h.total → has_tick h b ≡ true
ticked_yes h b l m = ap₂ (λ x y. x && y) (nonempty_at h b l) (lt-ltb (capped (below h b)) h.total m)

ticked_empty : (h : Seen) (b : ℕ) → get_or h.numbers b 0 ≡ 0 → has_tick h b ≡ false
ticked_empty h b e = ap (λ n. ltb 0 n && ltb (capped (below h b)) h.total) e

ticked_full : (h : Seen) (b : ℕ) → h.total ≤ capped (below h b) → has_tick h b ≡ false
ticked_full h b l = ap (λ c. is_nonempty h b && c) (le-ltb (capped (below h b)) h.total l) ∙ elim (is_nonempty h b) as (λ c. (c && false) ≡ false) [ true ↦ refl | false ↦ refl ]

own_empty : (h : Seen) (t b : ℕ) → get_or h.numbers b 0 ≡ 0 → own h t b ≡ []
own_empty h t b e = ap (λ c. cond c (ticks_at h t b) []) (ticked_empty h b e)

-- the picks of a bin where the running count is below the total
own_open : (h : Seen) (t b : ℕ) → b < bins_in h → 0 < get_or h.numbers b 0 → running h b < h.total → own h t b ≡ map (λ k. tick_pick b (tick_of t k)) (range_with_len (ticks_before h t b) (ticks_before h t (b + 1) - ticks_before h t b))
own_open h t b l m n =
    let more = below_more h b l in
    let on : capped (below h b) < h.total = omega (arith, more, n) in
    let w : ticks_within t (running h b) h.total ≡ ticks_before h t (b + 1) = sym (before_some h t (b + 1) (omega (arith, more, m))) in
    ap (λ c. cond c (ticks_at h t b) []) (ticked_yes h b m on)
    ∙ (ap (λ c. cond c (map (λ k. tick_pick b (tick_of t k)) (range_with_len (ticks_before h t b) (ticks_within t (running h b) h.total - ticks_before h t b))) (tick_pick b (tick_of t (ticks_before h t b)) ∷ tick_pick b all_of_them ∷ [])) (lt-ltb (running h b) h.total n)
    ∙ ap (λ n. map (λ k. tick_pick b (tick_of t k)) (range_with_len (ticks_before h t b) (n - ticks_before h t b))) w)

-- and of the first one where it is the total
own_end : (h : Seen) (t b : ℕ) → 0 < get_or h.numbers b 0 → capped (below h b) < h.total → h.total ≤ running h b → own h t b ≡ tick_pick b (tick_of t (ticks_before h t b)) ∷ tick_pick b all_of_them ∷ []
own_end h t b l m n =
    ap (λ c. cond c (ticks_at h t b) []) (ticked_yes h b l m)
    ∙ ap (λ c. cond c (map (λ k. tick_pick b (tick_of t k)) (range_with_len (ticks_before h t b) (ticks_within t (running h b) h.total - ticks_before h t b))) (tick_pick b (tick_of t (ticks_before h t b)) ∷ tick_pick b all_of_them ∷ [])) (le-ltb (running h b) h.total n)

-- the number of ticks yielded before a bin
pub given_before : (h : Seen) (t i : ℕ) → i ≤ bins_in h → (i ≡ 0) ⊎ (capped (below h i) < h.total) → length (ticked_in h t 0 i) ≡ ticks_before h t i
given_before h t zero l o = refl
given_before h t (suc i) l o =
    let u : suc i ≡ i + 1 = omega arith in
    let at : i < bins_in h = omega (arith, l) in
    let more = below_more h i at in
    let open_here : running h i < h.total =
    ⊎_elim
    (λ (z : suc i ≡ 0). absurd (omega (arith, z)))
    (λ (z : capped (below h (suc i)) < h.total).
    let e : below h (suc i) ≡ below h (i + 1) = ap (below h) u in
    omega (arith, z, e))
    o in
    let o' : (i ≡ 0) ⊎ (capped (below h i) < h.total) = inr (omega (arith, more, open_here)) in
    let ih = given_before h t i (omega (arith, l)) o' in
    let parts : length (ticked_in h t 0 (suc i)) ≡ length (ticked_in h t 0 i ++ (own h t i ++ [])) = ap (λ n. length (ticked_in h t 0 n)) u ∙ ap length (ticked_last h t i) in
    let sums : length (ticked_in h t 0 i ++ (own h t i ++ [])) ≡ length (ticked_in h t 0 i) + (length (own h t i) + 0) = length-append (ticked_in h t 0 i) (own h t i ++ []) ∙ ap (λ n. length (ticked_in h t 0 i) + n) (length-append (own h t i) []) in
    let b : ticks_before h t (suc i) ≡ ticks_before h t (i + 1) = ap (ticks_before h t) u in
    ⊎_elim
    (λ (some : 0 < get_or h.numbers i 0).
    let mine : length (own h t i) ≡ ticks_before h t (i + 1) - ticks_before h t i = ap length (own_open h t i at some open_here) ∙ length-map-range_with_len (λ k. tick_pick i (tick_of t k)) (ticks_before h t i) (ticks_before h t (i + 1) - ticks_before h t i) in
    omega (arith, parts, sums, mine, ih, b, before-le h t i (i + 1) (omega arith)))
    (λ (none : get_or h.numbers i 0 ≤ 0).
    let mine : length (own h t i) ≡ 0 = ap length (own_empty h t i (omega (arith, none))) in
    let same : below h i ≡ below h (i + 1) = omega (arith, more, none) in
    let same_ticks : ticks_before h t i ≡ ticks_before h t (i + 1) = ap (λ n. cond (eqb n 0) 0 (ticks_within t (capped n) h.total)) same in
    omega (arith, parts, sums, mine, ih, b, same_ticks))
    (cases_lt 0 (get_or h.numbers i 0))

-- no pick is at a bin where all was yielded
pub all_given : (h : Seen) (t i k : ℕ) → i < bins_in h → length (ticked_in h t 0 (i + 1)) ≤ k → NoneBefore (i + 1) (drop k (quantile_picks h t))
all_given h t i k l m =
    let on : i + 1 ≤ bins_in h = omega (arith, l) in
    subst (NoneBefore (i + 1)) (sym (ap (drop k) (picks_split h t (i + 1) on) ∙ drop_past (ticked_in h t 0 (i + 1)) (ticked_in h t (i + 1) (bins_in h - (i + 1))) k m))
    (drop_ahead (i + 1) (k - length (ticked_in h t 0 (i + 1))) (ticked_in h t (i + 1) (bins_in h - (i + 1))) (ticked_ahead h t (i + 1) (bins_in h - (i + 1)) (i + 1) (omega arith)))

-- what was yielded, if no pick to come is before a bin
pub given_there : (h : Seen) (t i k : ℕ) → i < bins_in h → NoneBefore i (drop k (quantile_picks h t)) → length (ticked_in h t 0 i) ≤ k
given_there h t i k l a =
    reached i k (ticked_in h t 0 i) (ticked_in h t i (bins_in h - i)) (ticked_within h t 0 i i (omega arith)) (subst (λ ps. NoneBefore i (drop k ps)) (picks_split h t i (omega (arith, l))) a)

pub pass_empty : (h : Seen) (t i k : ℕ) → i < bins_in h → get_or h.numbers i 0 ≡ 0 → NoneBefore i (drop k (quantile_picks h t)) → NoneBefore (i + 1) (drop k (quantile_picks h t))
pass_empty h t i k l e a =
    let same : length (ticked_in h t 0 (i + 1)) ≡ length (ticked_in h t 0 i) + (length (own h t i) + 0) = ap length (ticked_last h t i) ∙ (length-append (ticked_in h t 0 i) (own h t i ++ []) ∙ ap (λ n. length (ticked_in h t 0 i) + n) (length-append (own h t i) [])) in
    let mine : length (own h t i) ≡ 0 = ap length (own_empty h t i e) in
    all_given h t i k l (omega (arith, same, mine, given_there h t i k l a))

-- the next tick is past the running count
pub pass_open : (h : Seen) (t i k : ℕ) → 1 ≤ t → i < bins_in h → 0 < get_or h.numbers i 0 → running h i < h.total → is_within t (running h i) h.total k ≡ false → NoneBefore (i + 1) (drop k (quantile_picks h t))
pass_open h t i k s l m o e =
    let more = below_more h i l in
    let len = given_before h t (i + 1) (omega (arith, l)) (inr o) in
    let w = before_some h t (i + 1) (omega (arith, more, m)) in
    all_given h t i k l (omega (arith, len, w, past_counted t (running h i) h.total k s e))

-- the next tick is within the running count
pub more_given : (h : Seen) (t i k : ℕ) → 1 ≤ t → i < bins_in h → h.total < 2 ^ 64 → 0 < get_or h.numbers i 0 → running h i < h.total → is_within t (running h i) h.total k ≡ true → k + 1 ≤ ticks_before h t (i + 1)
more_given h t i k s l fit m o e =
    let more = below_more h i l in
    let w = before_some h t (i + 1) (omega (arith, more, m)) in
    omega (arith, w, within_counted t (running h i) h.total k s o fit e)

pub next_open : (h : Seen) (t i k : ℕ) → i < bins_in h → 0 < get_or h.numbers i 0 → running h i < h.total → k + 1 ≤ ticks_before h t (i + 1) → NoneBefore i (drop k (quantile_picks h t))
    → drop k (quantile_picks h t) ≡ tick_pick i (tick_of t k) ∷ drop (k + 1) (quantile_picks h t)
next_open h t i k l m o w a =
    let more = below_more h i l in
    let o' : capped (below h i) < h.total = omega (arith, more, o) in
    let len = given_before h t i (omega (arith, l)) (inr o') in
    let there = given_there h t i k l a in
    let from = ticks_before h t i in
    let n : ℕ = ticks_before h t (i + 1) - ticks_before h t i in
    let f : ℕ → Pick = λ j. tick_pick i (tick_of t j) in
    let rest : List Pick = ticked_in h t (i + 1) (bins_in h - (i + 1)) in
    let parts : quantile_picks h t ≡ ticked_in h t 0 i ++ (map f (range_with_len (ticks_before h t i) n) ++ rest) = picks_at h t i l ∙ ap (λ ps. ticked_in h t 0 i ++ (ps ++ rest)) (own_open h t i l m o) in
    let front : (j : ℕ) → length (ticked_in h t 0 i) ≤ j → drop j (quantile_picks h t) ≡ drop (j - length (ticked_in h t 0 i)) (map f (range_with_len (ticks_before h t i) n) ++ rest) = λ j q. ap (drop j) parts ∙ drop_past (ticked_in h t 0 i) (map f (range_with_len (ticks_before h t i) n) ++ rest) j q in
    let off : ℕ = k - length (ticked_in h t 0 i) in
    let at : ticks_before h t i + off ≡ k = omega (arith, len, there) in
    let on : off + 1 ≡ k + 1 - length (ticked_in h t 0 i) = omega (arith, there) in
    let inside : off < n = omega (arith, len, there, w) in
    front k there ∙ (drop_mapped f (ticks_before h t i) n off rest inside
    ∙ (ap (λ j. f j ∷ drop (off + 1) (map f (range_with_len (ticks_before h t i) n) ++ rest)) at
    ∙ ap (λ ps. f k ∷ ps) (ap (λ j. drop j (map f (range_with_len (ticks_before h t i) n) ++ rest)) on ∙ sym (front (k + 1) (omega (arith, there))))))

-- the first bin where the running count is the total
pub first_full : (h : Seen) (i : ℕ) → i ≤ bins_in h → 0 < h.total → h.total ≤ capped (below h i) → (b : ℕ) × (b < i) × (0 < get_or h.numbers b 0) × (capped (below h b) < h.total) × (h.total ≤ running h b)
first_full h zero l p f = absurd (omega (arith, p, f))
first_full h (suc i) l p f =
    let u : below h (suc i) ≡ below h (i + 1) = ap (below h) {x = suc i} {y = i + 1} (omega arith) in
    let more = below_more h i (omega (arith, l)) in
    ⊎_elim
    (λ (lt : capped (below h i) < h.total). (i, omega arith, omega (arith, lt, f, u, more), lt, omega (arith, f, u)))
    (λ (ge : h.total ≤ capped (below h i)).
    let r = first_full h i (omega (arith, l)) p ge in
    (r.0, omega (arith, r.1), r.2, r.3, r.4))
    (cases_lt (capped (below h i)) h.total)

-- no pick was made at the first bin where the running count is the total, or after it
not_behind : (h : Seen) (last : Option ℕ) (b : ℕ) → IsOpen h last → h.total ≤ running h b → bin_after last ≤ b
not_behind h last b o f =
    ⊎_elim
    (λ (z : bin_after last ≡ 0). omega (arith, z))
    (λ (z : capped (below h (bin_after last)) < h.total).
    ⊎_elim
    (λ (lt : b < bin_after last).
    let m = below-le h (b + 1) (bin_after last) (omega (arith, lt)) in
    absurd (omega (arith, z, f, m)))
    (λ (ge : bin_after last ≤ b). ge)
    (cases_lt b (bin_after last)))
    o

ticked_none : (h : Seen) (t a n : ℕ) → ((b : ℕ) → a ≤ b → has_tick h b ≡ false) → ticked_in h t a n ≡ []
ticked_none h t a zero e = refl
ticked_none h t a (suc n) e =
    ticked_first h t a n ∙ (ap (λ c. cond c (ticks_at h t a) [] ++ ticked_in h t (a + 1) n) (e a (omega arith)) ∙ ticked_none h t (a + 1) n (λ b l. e b (omega (arith, l))))

-- at the first bin where the running count is the total come the next tick and 1
pub closes : (h : Seen) (t i k : ℕ) (last : Option ℕ) → i < bins_in h → 0 < h.total → 0 < get_or h.numbers i 0 → h.total ≤ running h i → k ≤ ticks_before h t (bin_after last) → IsOpen h last → NoneBefore i (drop k (quantile_picks h t))
    → (drop k (quantile_picks h t) ≡ tick_pick i (tick_of t k) ∷ tick_pick i all_of_them ∷ []) × (drop (k + 1) (quantile_picks h t) ≡ tick_pick i all_of_them ∷ [])
closes h t i k last l p m f g o a =
    let before : capped (below h i) < h.total =
    ⊎_elim
    (λ (lt : capped (below h i) < h.total). lt)
    (λ (ge : h.total ≤ capped (below h i)).
    let r = first_full h i (omega (arith, l)) p ge in
    let b = r.0 in
    let in_bins : r.0 < bins_in h = omega (arith, r.1, l) in
    let len = given_before h t r.0 (omega (arith, in_bins)) (inr r.3) in
    let le = before-le h t (bin_after last) r.0 (not_behind h last r.0 o r.4) in
    let rest : List Pick = tick_pick r.0 all_of_them ∷ ticked_in h t (r.0 + 1) (bins_in h - (r.0 + 1)) in
    let parts : quantile_picks h t ≡ ticked_in h t 0 r.0 ++ (tick_pick r.0 (tick_of t (ticks_before h t r.0)) ∷ rest) = picks_at h t r.0 in_bins ∙ ap (λ ps. ticked_in h t 0 r.0 ++ (ps ++ ticked_in h t (r.0 + 1) (bins_in h - (r.0 + 1)))) (own_end h t r.0 r.2 r.3 r.4) in
    let no : i ≤ r.0 = not_given i k (ticked_in h t 0 r.0) rest (tick_pick r.0 (tick_of t (ticks_before h t r.0))) (omega (arith, g, le, len)) (subst (λ ps. NoneBefore i (drop k ps)) parts a) in
    absurd (omega (arith, no, r.1)))
    (cases_lt (capped (below h i)) h.total) in
    let len = given_before h t i (omega (arith, l)) (inr before) in
    let there = given_there h t i k l a in
    let le = before-le h t (bin_after last) i (not_behind h last i o f) in
    let k_is : ticks_before h t i ≡ k = omega (arith, len, there, le, g) in
    let none : ticked_in h t (i + 1) (bins_in h - (i + 1)) ≡ [] = ticked_none h t (i + 1) (bins_in h - (i + 1)) (λ b q. ticked_full h b (let n = below-le h (i + 1) b q in omega (arith, f, n))) in
    let two : List Pick = tick_pick i (tick_of t k) ∷ tick_pick i all_of_them ∷ [] in
    let parts : quantile_picks h t ≡ ticked_in h t 0 i ++ two = picks_at h t i l ∙ ap₂ (λ ps qs. ticked_in h t 0 i ++ (ps ++ qs)) (own_end h t i m before f ∙ ap (λ j. tick_pick i (tick_of t j) ∷ tick_pick i all_of_them ∷ []) k_is) none in
    let z : k - length (ticked_in h t 0 i) ≡ 0 = omega (arith, len, k_is) in
    let s : k + 1 - length (ticked_in h t 0 i) ≡ 1 = omega (arith, len, k_is) in (
      ap (drop k) parts ∙ (drop_past (ticked_in h t 0 i) two k there ∙ ap (λ j. drop j two) z),
      ap (drop (k + 1)) parts ∙ (drop_past (ticked_in h t 0 i) two (k + 1) (omega (arith, there)) ∙ ap (λ j. drop j two) s),
    )

-- a running count is never above the total, and there is one where a bin is nonempty
pub total_some : (h : Seen) (i : ℕ) → AreBins h → i < bins_in h → 0 < get_or h.numbers i 0 → 0 < h.total
total_some h i p l m =
    let more = below_more h i l in
    let all : below h (i + 1) ≤ sum h.numbers = sum_by-take-le (λ x. x) h.numbers (i + 1) in
    omega (arith, more, all, m, p.counted)
