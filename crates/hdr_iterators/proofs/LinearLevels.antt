-- The linear levels, one on.
use Rattle.std.proofs.Common.{◌≡◌, ◌≢◌, ℕ, ◌+◌, ◌-◌, ◌*◌, ◌/◌, ◌^◌, ◌<◌, ◌≤◌, min, max, zero, suc, Bool, true, false, cond, eqb, ltb, [], ◌∷◌, map, Option, Some, None, MatchOption, sym, refl, ap, ◌∙◌, subst, ◌⊎◌, ◌||◌, inl, inr, ⊎_elim, arith, eq-eqb}
use Rattle.std.proofs.lemmas.Bool.{false≢true, cases_lt, lt-ltb, le-ltb}
use Rattle.std.proofs.lemmas.Bool.Decides.{eqb_tells}
use Rattle.std.proofs.Math.Nat.{div-lt_iff_lt-mul, mul-le-mul_right}
use Rattle.std.specs.List.{range_with_len}
use Rattle.hdr_iterators.specs.Seen.{Seen, AreBins, bins_in, bin_or_last, lowest_in, top_in}
use Rattle.hdr_iterators.specs.Picks.{NoneBefore, AllBefore}
use Rattle.hdr_iterators.specs.Places.{level_pick, linear_level, linear_count, linear_end, linear_picks}
use Rattle.hdr_iterators.proofs.SeenPlaces.{before-class, from-class, place-le, place-inside, lowest-fits, top-fits}
use Rattle.hdr_iterators.specs.Linear.{levels_from, end_at, is_past, is_last_level, first_end, LinearStep}

pub div_lt : (x y s : ℕ) → 1 ≤ s → x < y * s → x / s < y
div_lt x y s p l = (div-lt_iff_lt-mul p).1 l

lt_div : (x y s : ℕ) → 1 ≤ s → x / s < y → x < y * s
lt_div x y s p l = (div-lt_iff_lt-mul p).0 l

pub div_le : (x y s : ℕ) → 1 ≤ s → y * s ≤ x → y ≤ x / s
div_le x y s p l =
    ⊎_elim (λ (lt : x / s < y). absurd (omega (arith, lt_div x y s p lt, l))) (λ (ge : y ≤ x / s). ge) (cases_lt (x / s) y)

le_div : (x y s : ℕ) → 1 ≤ s → y ≤ x / s → y * s ≤ x
le_div x y s p l =
    ⊎_elim (λ (lt : x < y * s). absurd (omega (arith, div_lt x y s p lt, l))) (λ (ge : y * s ≤ x). ge) (cases_lt x (y * s))

pub div_is : (x j s : ℕ) → 1 ≤ s → j * s ≤ x → x < (j + 1) * s → x / s ≡ j
div_is x j s p l m = omega (arith, div_lt x (j + 1) s p m, div_le x j s p l)

pub level_number : (s j : ℕ) → 1 ≤ s → j * s ≤ (2 ^ 64 - 1) → linear_level s j / s ≡ j
level_number s j p l = div_is (linear_level s j) j s p (omega (arith, p, l)) (omega (arith, p))

-- a level that isn't the (2 ^ 64 - 1) number is followed by the next one
pub level_next : (s j level : ℕ) → 1 ≤ s → level ≡ linear_level s j → level < (2 ^ 64 - 1) → min (level + s) (2 ^ 64 - 1) ≡ linear_level s (j + 1)
level_next s j level p e l = omega (arith, e, l, p)

pub level_next_number : (s j level : ℕ) → 1 ≤ s → level ≡ linear_level s j → level < (2 ^ 64 - 1) → (j + 1) * s ≤ (2 ^ 64 - 1)
level_next_number s j level p e l = omega (arith, e, l, p)

pub level_first : (s : ℕ) → 1 ≤ s → (s - 1) / s ≡ 0
level_first s p = div_is (s - 1) 0 s p (omega arith) (omega (arith, p))

level-le : (s j k : ℕ) → j ≤ k → linear_level s j ≤ linear_level s k
level-le s j k l =
    let e : j * s ≤ k * s = mul-le-mul_right s l in
    omega (arith, e)

levels_ahead : (h : Seen) (s a n m : ℕ) → AreBins h → m ≤ bin_or_last h (linear_level s a) → NoneBefore m (map (λ k. level_pick h (linear_level s k)) (range_with_len a n))
levels_ahead h s a zero m p l = tt
levels_ahead h s a (suc n) m p l =
    let up : bin_or_last h (linear_level s a) ≤ bin_or_last h (linear_level s (a + 1)) = place-le h (linear_level s a) (linear_level s (a + 1)) p (level-le s a (a + 1) (omega arith)) in
    (l, levels_ahead h s (a + 1) n m p (omega (arith, l, up)))

pub levels_within : (h : Seen) (s a n : ℕ) → 0 < bins_in h → AllBefore (bins_in h) (map (λ k. level_pick h (linear_level s k)) (range_with_len a n))
levels_within h s a zero p = tt
levels_within h s a (suc n) p = (omega (arith, p), levels_within h s (a + 1) n p)

pub range_more : (a n : ℕ) → 0 < n → range_with_len a n ≡ a ∷ range_with_len (a + 1) (n - 1)
range_more a zero l = absurd (omega (arith, l))
range_more a (suc n) l = ap (λ k. a ∷ range_with_len (a + 1) k) (omega arith)

pub levels_more : (h : Seen) (s j : ℕ) → j < linear_count h s → levels_from h s j ≡ level_pick h (linear_level s j) ∷ levels_from h s (j + 1)
levels_more h s j l =
    let c = linear_count h s in
    let n_is : linear_count h s - j - 1 ≡ linear_count h s - (j + 1) = omega arith in
    ap (map (λ k. level_pick h (linear_level s k))) (range_more j (linear_count h s - j) (omega (arith, l)))
    ∙ ap (λ n. level_pick h (linear_level s j) ∷ map (λ k. level_pick h (linear_level s k)) (range_with_len (j + 1) n)) n_is

-- a level below the last recorded class is picked before its bin
pub level_below : (h : Seen) (s j : ℕ) → AreBins h → 1 ≤ s → j < first_end h s → bin_or_last h (linear_level s j) < h.last
level_below h s j p q l =
    let a : (j + 1) * s ≤ lowest_in h h.last = le_div (lowest_in h h.last) (j + 1) s q (omega (arith, l)) in
    let b : linear_level s j < lowest_in h h.last = omega (arith, a, q) in
    omega (arith, before-class h.resolution (linear_level s j) h.last p.digits b)

-- the others are picked at its bin or after it
pub level_not_below : (h : Seen) (s j : ℕ) → AreBins h → 1 ≤ s → first_end h s ≤ j → h.last ≤ bin_or_last h (linear_level s j)
level_not_below h s j p q l =
    let a : lowest_in h h.last < (j + 1) * s = lt_div (lowest_in h h.last) (j + 1) s q (omega (arith, l)) in
    let b : lowest_in h h.last ≤ linear_level s j = omega (arith, a, lowest-fits h h.last p p.last_inside) in
    omega (arith, from-class h.resolution (linear_level s j) h.last p.digits b, p.last_inside)

linear_end_fits : (h : Seen) (s : ℕ) → AreBins h → linear_end h s ≤ (2 ^ 64 - 1)
linear_end_fits h s p = top-fits h (bin_or_last h (linear_level s (first_end h s))) p (place-inside h (linear_level s (first_end h s)) p)

count_at_greatest : (h : Seen) (s : ℕ) → linear_end h s ≡ (2 ^ 64 - 1) → linear_count h s ≡ max (first_end h s + 1) ((2 ^ 64 - 1) / s + 1)
count_at_greatest h s e = ap (λ b. max (first_end h s + 1) (cond b ((2 ^ 64 - 1) / s + 1) ((linear_end h s + 1) / s))) (eq-eqb (linear_end h s) (2 ^ 64 - 1) e)

count_below : (h : Seen) (s : ℕ) → eqb (linear_end h s) (2 ^ 64 - 1) ≡ false → linear_count h s ≡ max (first_end h s + 1) ((linear_end h s + 1) / s)
count_below h s e = ap (λ b. max (first_end h s + 1) (cond b ((2 ^ 64 - 1) / s + 1) ((linear_end h s + 1) / s))) e

ne-eqb : (a b : ℕ) → a ≢ b → eqb a b ≡ false
ne-eqb a b n = ⊎_elim (λ (y : (eqb a b ≡ true) × (a ≡ b)). absurd (n y.1)) (λ (y : (eqb a b ≡ false) × (a ≢ b)). y.0) (eqb_tells a b)

-- at the end, a level is the last one if and only if the count says so
pub verdict : (h : Seen) (s j v next : ℕ) → AreBins h → 1 ≤ s → first_end h s ≤ j → v ≡ linear_level s j → next ≡ min (v + s) (2 ^ 64 - 1)
    → ((is_last_level v next (Some (linear_end h s)) ≡ true) × (linear_count h s ≤ j + 1)) ⊎ ((is_last_level v next (Some (linear_end h s)) ≡ false) × (j + 1 < linear_count h s))
verdict h s j v next p q b e n =
    let fit = linear_end_fits h s p in
    ⊎_elim
    (λ (full : (eqb v (2 ^ 64 - 1) ≡ true) × (v ≡ (2 ^ 64 - 1))).
    let done : is_last_level v next (Some (linear_end h s)) ≡ true = ap (λ t. t || ltb (linear_end h s) next) full.0 in
    let top : (2 ^ 64 - 1) < (j + 1) * s = omega (arith, full.1, e) in
    ⊎_elim
    (λ (at : (eqb (linear_end h s) (2 ^ 64 - 1) ≡ true) × (linear_end h s ≡ (2 ^ 64 - 1))).
    let c = count_at_greatest h s at.1 in
    let d : (2 ^ 64 - 1) / s < j + 1 = div_lt (2 ^ 64 - 1) (j + 1) s q top in
    inl (done, omega (arith, c, d, b)))
    (λ (no : (eqb (linear_end h s) (2 ^ 64 - 1) ≡ false) × (linear_end h s ≢ (2 ^ 64 - 1))).
    let c = count_below h s no.0 in
    let lt : linear_end h s + 1 < (j + 1) * s = omega (arith, top, fit, no.1) in
    let d : (linear_end h s + 1) / s < j + 1 = div_lt (linear_end h s + 1) (j + 1) s q lt in
    inl (done, omega (arith, c, d, b)))
    (eqb_tells (linear_end h s) (2 ^ 64 - 1)))
    (λ (part : (eqb v (2 ^ 64 - 1) ≡ false) × (v ≢ (2 ^ 64 - 1))).
    let below : v < (2 ^ 64 - 1) = omega (arith, e, part.1) in
    let v_is : v + 1 ≡ (j + 1) * s = omega (arith, e, below, q) in
    let as_next : is_last_level v next (Some (linear_end h s)) ≡ ltb (linear_end h s) next = ap (λ t. t || ltb (linear_end h s) next) part.0 in
    let n_is : next ≡ min ((j + 1 + 1) * s - 1) (2 ^ 64 - 1) = omega (arith, n, v_is) in
    ⊎_elim
    (λ (over : linear_end h s < next).
    let no : eqb (linear_end h s) (2 ^ 64 - 1) ≡ false = ne-eqb (linear_end h s) (2 ^ 64 - 1) (omega (arith, over, n)) in
    let c = count_below h s no in
    let lt : linear_end h s + 1 < (j + 1 + 1) * s = omega (arith, over, n_is) in
    let d : (linear_end h s + 1) / s < j + 1 + 1 = div_lt (linear_end h s + 1) (j + 1 + 1) s q lt in
    inl (as_next ∙ lt-ltb (linear_end h s) next over, omega (arith, c, d, b)))
    (λ (upto : next ≤ linear_end h s).
    let not_done = as_next ∙ le-ltb (linear_end h s) next upto in
    ⊎_elim
    (λ (at : (eqb (linear_end h s) (2 ^ 64 - 1) ≡ true) × (linear_end h s ≡ (2 ^ 64 - 1))).
    let c = count_at_greatest h s at.1 in
    let le : (j + 1) * s ≤ (2 ^ 64 - 1) = omega (arith, v_is, below) in
    let d : j + 1 ≤ (2 ^ 64 - 1) / s = div_le (2 ^ 64 - 1) (j + 1) s q le in
    inr (not_done, omega (arith, c, d)))
    (λ (no : (eqb (linear_end h s) (2 ^ 64 - 1) ≡ false) × (linear_end h s ≢ (2 ^ 64 - 1))).
    let c = count_below h s no.0 in
    let le : (j + 1 + 1) * s ≤ linear_end h s + 1 = omega (arith, n_is, upto, fit, no.1) in
    let d : j + 1 + 1 ≤ (linear_end h s + 1) / s = div_le (linear_end h s + 1) (j + 1 + 1) s q le in
    inr (not_done, omega (arith, c, d)))
    (eqb_tells (linear_end h s) (2 ^ 64 - 1)))
    (cases_lt (linear_end h s) next))
    (eqb_tells v (2 ^ 64 - 1))

level_fits : (s v : ℕ) → v ≡ linear_level s (v / s) → v ≤ (2 ^ 64 - 1)
level_fits s v e = omega (arith, e)

-- the next level, also if the (2 ^ 64 - 1) number was reached
next_level_is : (s v next : ℕ) → 1 ≤ s → v ≡ linear_level s (v / s) → next ≡ min (v + s) (2 ^ 64 - 1) → next ≡ linear_level s (next / s)
next_level_is s v next p e n =
    ⊎_elim
    (λ (lt : v < (2 ^ 64 - 1)).
    let is : next ≡ linear_level s (v / s + 1) = n ∙ level_next s (v / s) v p e lt in
    let number : next / s ≡ v / s + 1 = ap (λ x. x / s) is ∙ level_number s (v / s + 1) p (level_next_number s (v / s) v p e lt) in
    is ∙ ap (linear_level s) (sym number))
    (λ (ge : (2 ^ 64 - 1) ≤ v).
    let same : next ≡ v = omega (arith, n, ge, level_fits s v e) in
    same ∙ (e ∙ ap (λ x. linear_level s (x / s)) (sym same)))
    (cases_lt v (2 ^ 64 - 1))

next_number : (s v next : ℕ) → 1 ≤ s → v ≡ linear_level s (v / s) → next ≡ min (v + s) (2 ^ 64 - 1) → v < (2 ^ 64 - 1) → next / s ≡ v / s + 1
next_number s v next p e n lt =
    let is : next ≡ linear_level s (v / s + 1) = n ∙ level_next s (v / s) v p e lt in
    ap (λ x. x / s) is ∙ level_number s (v / s + 1) p (level_next_number s (v / s) v p e lt)

levels_none : (h : Seen) (s j : ℕ) → linear_count h s ≤ j → levels_from h s j ≡ []
levels_none h s j l =
    let e : linear_count h s - j ≡ 0 = omega (arith, l) in
    ap (λ n. map (λ k. level_pick h (linear_level s k)) (range_with_len j n)) e

end_none : (h : Seen) (s j i : ℕ) (end : Option ℕ) → MatchOption end (j ≤ first_end h s) (λ e. (e ≡ linear_end h s) × (first_end h s < j)) → j < first_end h s → i < h.last → end_at h end i ≡ None
end_none h s j i None m l k = ap (λ b. cond b None (Some (top_in h i))) (lt-ltb i (h.last) k)
end_none h s j i (Some e) m l k = absurd (omega (arith, m.1, l))

end_some : (h : Seen) (s j i v : ℕ) (end : Option ℕ) → MatchOption end (j ≤ first_end h s) (λ e. (e ≡ linear_end h s) × (first_end h s < j)) → first_end h s ≤ j → v ≡ linear_level s j → i ≡ bin_or_last h v → h.last ≤ i → end_at h end i ≡ Some (linear_end h s)
end_some h s j i v None m l e f k =
    let at : j ≡ first_end h s = omega (arith, m, l) in
    let place : i ≡ bin_or_last h (linear_level s (first_end h s)) = f ∙ ap (bin_or_last h) (e ∙ ap (linear_level s) at) in
    ap (λ b. cond b None (Some (top_in h i))) (le-ltb i (h.last) k) ∙ ap (λ q. Some (top_in h q)) place
end_some h s j i v (Some x) m l e f k = ap Some m.0

not_last_below : (v next : ℕ) (end : Option ℕ) → is_last_level v next end ≡ false → v ≤ (2 ^ 64 - 1) → v < (2 ^ 64 - 1)
not_last_below v next end e l =
    ⊎_elim
    (λ (y : (eqb v (2 ^ 64 - 1) ≡ true) × (v ≡ (2 ^ 64 - 1))). absurd (false≢true (sym e ∙ ap (λ t. t || is_past next end) y.0)))
    (λ (y : (eqb v (2 ^ 64 - 1) ≡ false) × (v ≢ (2 ^ 64 - 1))). omega (arith, y.1, l))
    (eqb_tells v (2 ^ 64 - 1))

pub record Stepped (h : Seen) (s v next : ℕ) (end : Option ℕ) (done : Bool) : Type 0 where
  pub step : LinearStep h s next end done
  pub rest : cond done [] (levels_from h s (next / s)) ≡ levels_from h s (v / s + 1)

pub linear_step : (h : Seen) (s v i next : ℕ) (end end' : Option ℕ) (done' : Bool) → LinearStep h s v end false → i ≡ bin_or_last h v → next ≡ min (v + s) (2 ^ 64 - 1) → end' ≡ end_at h end i → done' ≡ is_last_level v next end' → Stepped h s v next end' done'
linear_step h s v i next end end' done' w f n e d =
    let p = w.plain in
    let q = w.some in
    let j = v / s in
    let going = w.going refl in
    let fits = level_fits s v w.level_is in
    let next_is = next_level_is s v next q w.level_is n in
    let place : i ≡ bin_or_last h (linear_level s (v / s)) = f ∙ ap (bin_or_last h) w.level_is in
    ⊎_elim
    (λ (lt : v / s < first_end h s).
    let early : i < h.last = omega (arith, place, level_below h s (v / s) p q lt) in
    let none : end' ≡ None = e ∙ end_none h s (v / s) i end going.1 lt early in
    let a : (v / s + 1) * s ≤ lowest_in h h.last = le_div (lowest_in h h.last) (v / s + 1) s q (omega (arith, lt)) in
    let below : v < (2 ^ 64 - 1) = omega (arith, a, w.level_is, lowest-fits h h.last p p.last_inside, q) in
    let not_done : done' ≡ false = d ∙ (ap (is_last_level v next) none ∙ ap (λ t. t || false) (ne-eqb v (2 ^ 64 - 1) (omega (arith, below)))) in
    let number : next / s ≡ v / s + 1 = next_number s v next q w.level_is n below in
    let count : first_end h s + 1 ≤ linear_count h s = omega arith in
    record {
      step = record { plain = p; some = q; level_is = next_is; going = λ _. (omega (arith, number, lt, count), rw none (omega (arith, number, lt))) };
      rest = ap (λ b. cond b [] (levels_from h s (next / s))) not_done ∙ ap (levels_from h s) number;
    })
    (λ (ge : first_end h s ≤ v / s).
    let late : h.last ≤ i = omega (arith, place, level_not_below h s (v / s) p q ge) in
    let some_end : end' ≡ Some (linear_end h s) = e ∙ end_some h s (v / s) i v end going.1 ge w.level_is f late in
    let done_is : done' ≡ is_last_level v next (Some (linear_end h s)) = d ∙ ap (is_last_level v next) some_end in
    ⊎_elim
    (λ (last : (is_last_level v next (Some (linear_end h s)) ≡ true) × (linear_count h s ≤ v / s + 1)).
    let is_done : done' ≡ true = done_is ∙ last.0 in
    record {
      step = record { plain = p; some = q; level_is = next_is; going = λ no. absurd (false≢true (sym no ∙ is_done)) };
      rest = ap (λ b. cond b [] (levels_from h s (next / s))) is_done ∙ sym (levels_none h s (v / s + 1) last.1);
    })
    (λ (more : (is_last_level v next (Some (linear_end h s)) ≡ false) × (v / s + 1 < linear_count h s)).
    let not_done : done' ≡ false = done_is ∙ more.0 in
    let below : v < (2 ^ 64 - 1) = not_last_below v next (Some (linear_end h s)) more.0 fits in
    let number : next / s ≡ v / s + 1 = next_number s v next q w.level_is n below in
    record {
      step = record { plain = p; some = q; level_is = next_is; going = λ _. (omega (arith, number, more.1), rw some_end (refl, omega (arith, number, ge))) };
      rest = ap (λ b. cond b [] (levels_from h s (next / s))) not_done ∙ ap (levels_from h s) number;
    })
    (verdict h s (v / s) v next p q ge w.level_is n))
    (cases_lt (v / s) (first_end h s))

-- no level to come is picked at or before a bin that the next one comes after
pub levels_behind : (h : Seen) (s v i : ℕ) (end : Option ℕ) (done : Bool) → LinearStep h s v end done → i < bin_or_last h v → NoneBefore (i + 1) (cond done [] (levels_from h s (v / s)))
levels_behind h s v i end true w l = tt
levels_behind h s v i end false w l =
    let e = ap (bin_or_last h) w.level_is in
    levels_ahead h s (v / s) (linear_count h s - v / s) (i + 1) w.plain (omega (arith, e, l))

-- the next level is at the current bin
pub next_here : (h : Seen) (s v i : ℕ) (end : Option ℕ) → LinearStep h s v end false → bin_or_last h v ≤ i → NoneBefore i (levels_from h s (v / s)) → (i ≡ bin_or_last h v) × (levels_from h s (v / s) ≡ level_pick h v ∷ levels_from h s (v / s + 1))
next_here h s v i end w l a =
    let more = levels_more h s (v / s) (w.going refl).0 in
    let b : NoneBefore i (level_pick h (linear_level s (v / s)) ∷ levels_from h s (v / s + 1)) = subst (NoneBefore i) more a in
    let e = ap (bin_or_last h) w.level_is in
    (omega (arith, l, b.0, e), more ∙ ap (λ q. level_pick h q ∷ levels_from h s (v / s + 1)) (sym w.level_is))

pub levels_all : (h : Seen) (s : ℕ) → 1 ≤ s → levels_from h s ((s - 1) / s) ≡ linear_picks h s
levels_all h s p =
    let whole : linear_count h s - 0 ≡ linear_count h s = omega arith in
    ap (levels_from h s) (level_first s p) ∙ ap (λ n. map (λ k. level_pick h (linear_level s k)) (range_with_len 0 n)) whole
