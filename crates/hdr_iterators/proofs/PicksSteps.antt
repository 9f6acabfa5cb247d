-- The steps of the base iterator.
use Rattle.std.proofs.Common.{◌≡◌, ℕ, zero, suc, ◌+◌, ◌-◌, ◌^◌, ◌<◌, ◌≤◌, min, List, [], ◌∷◌, get_or, take, sum, Option, None, refl, ap, ◌∙◌, ⊎_elim, arith}
use Rattle.std.proofs.lemmas.Bool.{cases_lt}
use Rattle.std.proofs.lemmas.List.Sums.{sum_by_more, sum_by-take-le}
use Rattle.std.proofs.lemmas.List.{take-take}
use Rattle.hdr_iterators.specs.Seen.{Seen, AreEmpty, bins_in, below}
use Rattle.hdr_iterators.specs.Picks.{Pick, NoneBefore, AllBefore, AllFilled, InStep, bin_after}

pub NoneBefore-zero : (ps : List Pick) → NoneBefore 0 ps
NoneBefore-zero [] = tt
NoneBefore-zero (p ∷ ps) = (omega arith, NoneBefore-zero ps)

pub NoneBefore-end : (n : ℕ) (ps : List Pick) → NoneBefore n ps → AllBefore n ps → ps ≡ []
NoneBefore-end n [] h l = refl
NoneBefore-end n (p ∷ ps) h l = absurd (omega (arith, h.0, l.0))

pub below_more : (h : Seen) (i : ℕ) → i < bins_in h → below h (i + 1) ≡ below h i + get_or h.numbers i 0
below_more h i l = sum_by_more (λ x. x) h.numbers i 0 l

pub below-le : (h : Seen) (i j : ℕ) → i ≤ j → below h i ≤ below h j
below-le h i j l =
    let e : sum (take i (take j h.numbers)) ≡ below h i = ap sum (take-take i j h.numbers l) in
    let m : sum (take i (take j h.numbers)) ≤ below h j = sum_by-take-le (λ x. x) (take j h.numbers) i in
    omega (arith, e, m)

pub InStep-first : (h : Seen) (ps : List Pick) (count : ℕ) → AllBefore (bins_in h) ps → 0 < bins_in h → count ≡ get_or h.numbers 0 0 → count < 2 ^ 64 → InStep h ps 0 count count count None
InStep-first h ps count a l c m =
    let more = below_more h 0 l in
    record {
      ahead = NoneBefore-zero ps;
      within = a;
      candidate = record { in_order = omega arith; inside = l; total_is = omega (arith, more, c, m); count_is = c };
      since_is = omega (arith, more, c, m);
    }

-- empty bins add nothing
below_run : (h : Seen) (i d : ℕ) → i + d ≤ bins_in h → AreEmpty h.numbers i (i + d) → below h (i + d) ≡ below h i
below_run h i zero l e =
    let u : i + zero ≡ i = omega arith in
    ap (below h) u
below_run h i (suc d) l e =
    let u : i + suc d ≡ i + d + 1 = omega arith in
    let before : AreEmpty h.numbers i (i + d) = λ k a b. e k a (omega (arith, b)) in
    let more = below_more h (i + d) (omega (arith, l)) in
    let none = e (i + d) (omega arith) (omega arith) in
    let here : below h (i + d + 1) ≡ below h i = omega (arith, more, none, below_run h i d (omega (arith, l)) before) in
    ap (below h) u ∙ here

pub below-passed : (h : Seen) (i j : ℕ) → i ≤ j → j ≤ bins_in h → AreEmpty h.numbers i j → below h j ≡ below h i
below-passed h i j m l e =
    let u : j ≡ i + (j - i) = omega arith in
    let none : AreEmpty h.numbers i (i + (j - i)) = λ k a b. e k a (omega (arith, b, u)) in
    ap (below h) u ∙ below_run h i (j - i) (omega (arith, l, u)) none

-- picks of bins that hold samples are not of the empty bins in between
pub NoneBefore-passed : (h : Seen) (i j : ℕ) (ps : List Pick) → AllFilled h ps → AreEmpty h.numbers i j → NoneBefore i ps → NoneBefore j ps
NoneBefore-passed h i j [] f e a = tt
NoneBefore-passed h i j (p ∷ ps) f e a = (
  ⊎_elim (λ (lt : p.place < j). absurd (omega (arith, e p.place a.0 lt, f.0))) (λ (ge : j ≤ p.place). ge) (cases_lt p.place j),
  NoneBefore-passed h i j ps f.1 e a.1,
)

-- no pick came, and a later bin follows, with none but empty ones in between
pub InStep-passed : (h : Seen) (ps : List Pick) (i j total since old count total' since' : ℕ) (last : Option ℕ) → InStep h ps i total since old last → i < j → j < bins_in h → AreEmpty h.numbers (i + 1) j → NoneBefore j ps → count ≡ get_or h.numbers j 0
    → total' ≡ min (total + count) (2 ^ 64 - 1) → since' ≡ min (since + count) (2 ^ 64 - 1) → InStep h ps j total' since' count last
InStep-passed h ps i j total since old count total' since' last s m l e a c t u =
    let more = below_more h j l in
    let same = below-passed h (i + 1) j (omega (arith, m)) (omega (arith, l)) e in
    let le = below-le h (bin_after last) (i + 1) s.candidate.in_order in
    let total_is = s.candidate.total_is in
    record {
      ahead = a;
      within = s.within;
      candidate = record { in_order = omega (arith, s.candidate.in_order, m); inside = l; total_is = omega (arith, more, same, total_is, c, t); count_is = c };
      since_is = omega (arith, more, same, le, s.since_is, c, u);
    }
