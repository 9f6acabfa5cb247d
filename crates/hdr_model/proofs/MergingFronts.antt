-- A source of the same classes and of another number of bins: its classes recorded one by one are its numbers added at once.
use Rattle.std.proofs.Common.{◌≡◌, ℕ, zero, suc, ◌+◌, ◌-◌, ◌^◌, ◌<◌, ◌≤◌, min, max, cond, eqb, ◌&&◌, true, IfSome, List, [], ◌∷◌, ◌++◌, Option, Some, None, length, get_or, set, sum, refl, sym, ap, subst, ◌∙◌, arith, inl, inr}
use Rattle.std.proofs.lemmas.Bool.{and_parts, cases_lt, cases_eq, eqb-true, ne_eqb}
use Rattle.std.proofs.lemmas.List.{ext_get_or, get_or_past, get_or-set_same, get_or-set_other, length-set, set-get_or}
use Rattle.std.proofs.lemmas.List.Sums.{sum_by-cons}
use Rattle.hdr_base.specs.Classes.{Resolution, bin_of, reach_of, value_of}
use Rattle.hdr_base.proofs.ClassesFiner.{bin-value_of}
use Rattle.hdr_counts.specs.Blocks.{capped_sums}
use Rattle.hdr_counts.proofs.BlocksCapped.{capped-length}
use Rattle.hdr_model.specs.Plain.{Plain, IsPlain, resolution, reach, max_of}
use Rattle.hdr_model.specs.Marks.{IsAbove, IsLowerMark, later_mark, earlier_mark, later_of, earlier_of}
use Rattle.hdr_model.specs.Recording.{Times, after_record, after_records, after_add_to_bin}
use Rattle.hdr_model.specs.Merging.{classes_from, top_class}
use Rattle.hdr_model.proofs.MergingKeeps.{number-le-max, recorded-inside, value-le-max}
use Rattle.hdr_model.proofs.MergingOrder.{number-fits}
use Rattle.hdr_model.proofs.PlainKept.{resolution-digits, room-in}

-- the nonempty ones of these numbers added, the first to bin i
added_from : ℕ → Plain → ℕ → List ℕ → Plain
added_from greatest h i [] = h
added_from greatest h i (zero ∷ ns) = added_from greatest h (suc i) ns
added_from greatest h i (suc n ∷ ns) = added_from greatest (after_add_to_bin greatest h i (suc n)) (suc i) ns

next : (i j : ℕ) → i + suc j ≡ suc i + j
next i j = omega arith

first : (i : ℕ) → i + 0 ≡ i
first i = omega arith

-- what is true of each nonempty one
AtEach : (ℕ → Type 0) → ℕ → List ℕ → Type 0
AtEach P i ns = (j : ℕ) → 0 < get_or ns j 0 → P (i + j)

at-tail : (P : ℕ → Type 0) (i n : ℕ) (ns : List ℕ) → AtEach P i (n ∷ ns) → AtEach P (suc i) ns
unfolding AtEach
at-tail P i n ns each = λ j pos. subst P (next i j) (each (suc j) pos)

at-head : (P : ℕ → Type 0) (i n : ℕ) (ns : List ℕ) → AtEach P i (suc n ∷ ns) → P i
unfolding AtEach
at-head P i n ns each = subst P (first i) (each 0 (omega arith))

-- classes within the reach are recorded at their bins
records-are : (greatest : ℕ) (h : Plain) (i : ℕ) (ns : List ℕ) (ts : List Times) → 0 < (resolution h).digits → AtEach (λ k. value_of (resolution h) k ≤ reach h) i ns
    → after_records greatest h (classes_from (resolution h) i ns ++ ts) ≡ after_records greatest (added_from greatest h i ns) ts
unfolding added_from after_add_to_bin reach
records-are greatest h i [] ts m each = refl
records-are greatest h i (zero ∷ ns) ts m each = records-are greatest h (suc i) ns ts m (at-tail (λ k. value_of (resolution h) k ≤ reach h) i 0 ns each)
records-are greatest h i (suc n ∷ ns) ts m each =
    let P = λ (k : ℕ). value_of (resolution h) k ≤ reach h in
    let v = value_of (resolution h) i in
    let step : after_record greatest h v (suc n) ≡ after_add_to_bin greatest h i (suc n) = sym (recorded-inside greatest h v (suc n) (at-head P i n ns each)) ∙ ap (λ b. after_add_to_bin greatest h b (suc n)) (bin-value_of (resolution h) i m) in
    ap (λ w. after_records greatest w (classes_from (resolution h) (suc i) ns ++ ts)) step ∙ records-are greatest (after_add_to_bin greatest h i (suc n)) (suc i) ns ts m (at-tail P i (suc n) ns each)

-- only counters, total and marks change
added-parts : (greatest : ℕ) (h : Plain) (i : ℕ) (ns : List ℕ) → let w = added_from greatest h i ns in
    w ≡ record h { counts = w.counts; total = w.total; top_mark = w.top_mark; lower_mark = w.lower_mark }
unfolding added_from after_add_to_bin
added-parts greatest h i [] = refl
added-parts greatest h i (zero ∷ ns) = added-parts greatest h (suc i) ns
added-parts greatest h i (suc n ∷ ns) = added-parts greatest (after_add_to_bin greatest h i (suc n)) (suc i) ns

added-length : (greatest : ℕ) (h : Plain) (i : ℕ) (ns : List ℕ) → length (added_from greatest h i ns).counts ≡ length h.counts
unfolding added_from after_add_to_bin
added-length greatest h i [] = refl
added-length greatest h i (zero ∷ ns) = added-length greatest h (suc i) ns
added-length greatest h i (suc n ∷ ns) =
    added-length greatest (after_add_to_bin greatest h i (suc n)) (suc i) ns ∙ length-set h.counts i (min (get_or h.counts i 0 + suc n) greatest)

-- bins before the first keep their numbers
added-before : (greatest : ℕ) (h : Plain) (i : ℕ) (ns : List ℕ) (j : ℕ) → j < i → get_or (added_from greatest h i ns).counts j 0 ≡ get_or h.counts j 0
unfolding added_from after_add_to_bin
added-before greatest h i [] j lt = refl
added-before greatest h i (zero ∷ ns) j lt = added-before greatest h (suc i) ns j (omega arith)
added-before greatest h i (suc n ∷ ns) j lt =
    added-before greatest (after_add_to_bin greatest h i (suc n)) (suc i) ns j (omega arith) ∙ get_or-set_other h.counts i j (min (get_or h.counts i 0 + suc n) greatest) 0 (λ e. omega arith)

Small : ℕ → List ℕ → Type 0
Small greatest ms = (j : ℕ) → get_or ms j 0 ≤ greatest

small-set : (greatest : ℕ) (ms : List ℕ) (i x : ℕ) → Small greatest ms → x ≤ greatest → Small greatest (set ms i x)
unfolding Small
small-set greatest ms i x small le = λ j. elim (cases_eq j i) [
  | inl e ↦ elim (cases_lt i (length ms)) [
    | inl inside ↦ omega (arith, ap (λ k. get_or (set ms i x) k 0) e, get_or-set_same ms i x 0 inside)
    | inr past ↦ omega (arith, get_or_past (set ms i x) j 0 (omega (arith, e, length-set ms i x)))
  ]
  | inr n ↦ omega (arith, get_or-set_other ms i j x 0 n, small j)
]

-- the numbers of all bins from the first on
added-at : (greatest : ℕ) (h : Plain) (i : ℕ) (ns : List ℕ) (j : ℕ) → Small greatest h.counts → AtEach (λ k. k < length h.counts) i ns
    → get_or (added_from greatest h i ns).counts (i + j) 0 ≡ min (get_or h.counts (i + j) 0 + get_or ns j 0) greatest
unfolding added_from after_add_to_bin Small
added-at greatest h i [] j small each = omega (arith, small (i + j))
added-at greatest h i (zero ∷ ns) zero small each =
    added-before greatest h (suc i) ns (i + 0) (omega arith) ∙ (let e : get_or h.counts (i + 0) 0 ≡ min (get_or h.counts (i + 0) 0 + 0) greatest = omega (arith, small (i + 0)) in e)
added-at greatest h i (zero ∷ ns) (suc j) small each =
    ap (λ k. get_or (added_from greatest h (suc i) ns).counts k 0) (next i j) ∙ added-at greatest h (suc i) ns j small (at-tail (λ k. k < length h.counts) i 0 ns each)
    ∙ ap (λ k. min (get_or h.counts k 0 + get_or ns j 0) greatest) (sym (next i j))
added-at greatest h i (suc n ∷ ns) zero small each =
    let x = min (get_or h.counts i 0 + suc n) greatest in
    let w = after_add_to_bin greatest h i (suc n) in
    ap (λ k. get_or (added_from greatest w (suc i) ns).counts k 0) (first i) ∙ added-before greatest w (suc i) ns i (omega arith)
    ∙ get_or-set_same h.counts i x 0 (at-head (λ k. k < length h.counts) i n ns each) ∙ ap (λ k. min (get_or h.counts k 0 + suc n) greatest) (sym (first i))
added-at greatest h i (suc n ∷ ns) (suc j) small each =
    let x = min (get_or h.counts i 0 + suc n) greatest in
    let w = after_add_to_bin greatest h i (suc n) in
    let inside : AtEach (λ k. k < length w.counts) (suc i) ns = subst (λ l. AtEach (λ k. k < l) (suc i) ns) (sym (length-set h.counts i x)) (at-tail (λ k. k < length h.counts) i (suc n) ns each) in
    ap (λ k. get_or (added_from greatest w (suc i) ns).counts k 0) (next i j) ∙ added-at greatest w (suc i) ns j (small-set greatest h.counts i x small (omega arith)) inside
    ∙ ap (λ y. min (y + get_or ns j 0) greatest) (get_or-set_other h.counts i (suc i + j) x 0 (λ e. omega arith)) ∙ ap (λ k. min (get_or h.counts k 0 + get_or ns j 0) greatest) (sym (next i j))

capped-at : (greatest : ℕ) (ms ns : List ℕ) (j : ℕ) → Small greatest ms → j < length ms → get_or (capped_sums greatest ms ns) j 0 ≡ min (get_or ms j 0 + get_or ns j 0) greatest
unfolding Small
capped-at greatest [] ns j small lt = absurd (omega arith)
capped-at greatest (m ∷ ms) [] j small lt = omega (arith, small j)
capped-at greatest (m ∷ ms) (n ∷ ns) zero small lt = refl
capped-at greatest (m ∷ ms) (n ∷ ns) (suc j) small lt = capped-at greatest ms ns j (λ k. small (suc k)) (omega arith)

added-counts : (greatest : ℕ) (h : Plain) (ns : List ℕ) → Small greatest h.counts → AtEach (λ k. k < length h.counts) 0 ns → (added_from greatest h 0 ns).counts ≡ capped_sums greatest h.counts ns
added-counts greatest h ns small each =
    ext_get_or 0 (added_from greatest h 0 ns).counts (capped_sums greatest h.counts ns) (added-length greatest h 0 ns ∙ sym (capped-length greatest h.counts ns))
    (λ j lt.
    let at = added-at greatest h 0 ns j small each in
    let here : 0 + j ≡ j = omega arith in
    let own : get_or (added_from greatest h 0 ns).counts j 0 ≡ min (get_or h.counts j 0 + get_or ns j 0) greatest = subst (λ k. get_or (added_from greatest h 0 ns).counts k 0 ≡ min (get_or h.counts k 0 + get_or ns j 0) greatest) here at in
    own ∙ sym (capped-at greatest h.counts ns j small (omega (arith, lt, added-length greatest h 0 ns))))

added-total : (greatest : ℕ) (h : Plain) (i : ℕ) (ns : List ℕ) → h.total ≤ 2 ^ 64 - 1 → (added_from greatest h i ns).total ≡ min (h.total + sum ns) (2 ^ 64 - 1)
unfolding added_from after_add_to_bin
added-total greatest h i [] le = omega (arith, le)
added-total greatest h i (zero ∷ ns) le = added-total greatest h (suc i) ns le ∙ ap (λ s. min (h.total + s) (2 ^ 64 - 1)) (let e : sum ns ≡ sum (0 ∷ ns) = omega (arith, sum_by-cons (λ x. x) 0 ns) in e)
added-total greatest h i (suc n ∷ ns) le =
    added-total greatest (after_add_to_bin greatest h i (suc n)) (suc i) ns (omega arith)
    ∙ (let e : min (min (h.total + suc n) (2 ^ 64 - 1) + sum ns) (2 ^ 64 - 1) ≡ min (h.total + sum (suc n ∷ ns)) (2 ^ 64 - 1) = omega (arith, sum_by-cons (λ x. x) (suc n) ns) in e)

-- marks that were widened by a class do not change by one between
later-absorbs : (mark : Option ℕ) (i m : ℕ) → i ≤ m → later_mark (later_mark mark i) m ≡ later_mark mark m
later-absorbs None i m le = ap (λ x. Some x) (let e : max i m ≡ m = omega arith in e)
later-absorbs (Some x) i m le = ap (λ y. Some y) (let e : max (max x i) m ≡ max x m = omega arith in e)

added-top : (greatest : ℕ) (h : Plain) (i : ℕ) (ns : List ℕ) (m : ℕ) → AtEach (λ k. k ≤ m) i ns → later_mark (added_from greatest h i ns).top_mark m ≡ later_mark h.top_mark m
unfolding added_from after_add_to_bin
added-top greatest h i [] m each = refl
added-top greatest h i (zero ∷ ns) m each = added-top greatest h (suc i) ns m (at-tail (λ k. k ≤ m) i 0 ns each)
added-top greatest h i (suc n ∷ ns) m each =
    added-top greatest (after_add_to_bin greatest h i (suc n)) (suc i) ns m (at-tail (λ k. k ≤ m) i (suc n) ns each) ∙ later-absorbs h.top_mark i m (at-head (λ k. k ≤ m) i n ns each)

earlier-first : (mark : Option ℕ) → earlier_mark mark 0 ≡ mark
earlier-first None = refl
earlier-first (Some m) = refl

earlier-none : (i : ℕ) → 0 < i → earlier_mark None i ≡ Some i
earlier-none i some = ap (λ b. cond b None (Some i)) (ne_eqb i 0 (λ e. omega (arith, e, some)))

earlier-both : (m i : ℕ) → 0 < i → earlier_mark (Some m) i ≡ Some (min m i)
earlier-both m i some = ap (λ b. cond b (Some m) (Some (min m i))) (ne_eqb i 0 (λ e. omega (arith, e, some)))

-- a lower mark below a class stays
earlier-stays : (y i : ℕ) → 0 < y → y ≤ i → earlier_mark (Some y) i ≡ Some y
earlier-stays y i some le = earlier-both y i (omega (arith, some, le)) ∙ ap (λ x. Some x) (let e : min y i ≡ y = omega arith in e)

added-stays : (greatest : ℕ) (h : Plain) (i y : ℕ) (ns : List ℕ) → h.lower_mark ≡ Some y → 0 < y → y ≤ i → (added_from greatest h i ns).lower_mark ≡ Some y
unfolding added_from after_add_to_bin
added-stays greatest h i y [] is some le = is
added-stays greatest h i y (zero ∷ ns) is some le = added-stays greatest h (suc i) y ns is some (omega arith)
added-stays greatest h i y (suc n ∷ ns) is some le =
    added-stays greatest (after_add_to_bin greatest h i (suc n)) (suc i) y ns (ap (λ mark. earlier_mark mark i) is ∙ earlier-stays y i some le) some (omega arith)

-- if none but the first holds anything, the lower mark stays
added-none : (greatest : ℕ) (h : Plain) (i : ℕ) (ns : List ℕ) → AtEach (λ k. k ≡ 0) i ns → (added_from greatest h i ns).lower_mark ≡ h.lower_mark
unfolding added_from after_add_to_bin
added-none greatest h i [] each = refl
added-none greatest h i (zero ∷ ns) each = added-none greatest h (suc i) ns (at-tail (λ k. k ≡ 0) i 0 ns each)
added-none greatest h i (suc n ∷ ns) each =
    added-none greatest (after_add_to_bin greatest h i (suc n)) (suc i) ns (at-tail (λ k. k ≡ 0) i (suc n) ns each)
    ∙ ap (λ k. earlier_mark h.lower_mark k) (at-head (λ k. k ≡ 0) i n ns each) ∙ earlier-first h.lower_mark

earlier-some : (mark : Option ℕ) (f : ℕ) → 0 < f → IfSome mark (λ m. 0 < m) → (y : ℕ) × (0 < y) × (y ≤ f) × (earlier_mark mark f ≡ Some y)
earlier-some None f some own = (f, some, omega arith, earlier-none f some)
earlier-some (Some m) f some own = (min m f, omega (arith, some, own), omega arith, earlier-both m f some)

-- the lower mark is widened by the first class after class 0
added-lower : (greatest : ℕ) (h : Plain) (i : ℕ) (ns : List ℕ) (f : ℕ) → IfSome h.lower_mark (λ m. 0 < m) → 0 < f → i ≤ f → 0 < get_or ns (f - i) 0 → ((j : ℕ) → 0 < i + j → i + j < f → get_or ns j 0 ≡ 0)
    → (added_from greatest h i ns).lower_mark ≡ earlier_mark h.lower_mark f
unfolding added_from after_add_to_bin
added-lower greatest h i [] f own_some some le pos none = absurd (omega (arith, pos))
added-lower greatest h i (zero ∷ ns) f own_some some le pos none =
    elim (cases_eq i f) [
      | inl e ↦ absurd (let here : f - i ≡ 0 = omega (arith, e) in omega (arith, ap (λ k. get_or (0 ∷ ns) k 0) here, pos))
      | inr n ↦ (
          let here : f - i ≡ suc (f - suc i) = omega (arith, le, n) in
          added-lower greatest h (suc i) ns f own_some some (omega (arith, le, n)) (subst (λ k. 0 < get_or (0 ∷ ns) k 0) here pos) (λ j a b. none (suc j) (omega arith) (omega (arith, b)))
          )
    ]
added-lower greatest h i (suc n ∷ ns) f own_some some le pos none =
    let w = after_add_to_bin greatest h i (suc n) in
    elim (cases_eq i f) [
      | inl e ↦ (
          let (y, own, below, is) = earlier-some h.lower_mark f some own_some in
          added-stays greatest w (suc i) y ns (ap (λ k. earlier_mark h.lower_mark k) e ∙ is) own (omega (arith, below, e)) ∙ sym is
          )
      | inr other ↦ elim (cases_eq i 0) [
        | inl zero_is ↦ (
            let here : f - i ≡ suc (f - suc i) = omega (arith, le, other) in
            added-lower greatest w (suc i) ns f (subst (λ mark. IfSome mark (λ m. 0 < m)) (sym (ap (λ k. earlier_mark h.lower_mark k) zero_is ∙ earlier-first h.lower_mark)) own_some) some (omega (arith, le, other)) (subst (λ k. 0 < get_or (suc n ∷ ns) k 0) here pos) (λ j a b. none (suc j) (omega arith) (omega (arith, b)))
            ∙ ap (λ mark. earlier_mark mark f) (ap (λ k. earlier_mark h.lower_mark k) zero_is ∙ earlier-first h.lower_mark)
            )
        | inr past ↦ absurd (omega (arith, none 0 (omega (arith, past)) (omega (arith, le, other))))
      ]
    ]

-- nothing added
added-nothing : (greatest : ℕ) (h : Plain) (i : ℕ) (ns : List ℕ) → AtEach (λ k. ⊥) i ns → added_from greatest h i ns ≡ h
unfolding added_from
added-nothing greatest h i [] each = refl
added-nothing greatest h i (zero ∷ ns) each = added-nothing greatest h (suc i) ns (at-tail (λ k. ⊥) i 0 ns each)
added-nothing greatest h i (suc n ∷ ns) each = absurd (at-head (λ k. ⊥) i n ns each)

-- no times more of a class widens the marks alone
added-mark : (greatest : ℕ) (w : Plain) (m : ℕ) → Small greatest w.counts → w.total ≤ 2 ^ 64 - 1
    → after_add_to_bin greatest w m 0 ≡ record w { top_mark = later_mark w.top_mark m; lower_mark = earlier_mark w.lower_mark m }
unfolding after_add_to_bin Small
added-mark greatest w m small le =
    let number : min (get_or w.counts m 0 + 0) greatest ≡ get_or w.counts m 0 = omega (arith, small m) in
    let total : min (w.total + 0) (2 ^ 64 - 1) ≡ w.total = omega (arith, le) in
    ap (λ ns. record w { counts = ns; total = min (w.total + 0) (2 ^ 64 - 1); top_mark = later_mark w.top_mark m; lower_mark = earlier_mark w.lower_mark m }) (ap (λ x. set w.counts m x) number ∙ set-get_or w.counts m 0)
    ∙ ap (λ t. record w { total = t; top_mark = later_mark w.top_mark m; lower_mark = earlier_mark w.lower_mark m }) total

-- the histogram with what is added at once
abbrev pub added_at_once : ℕ → Plain → List ℕ → Option ℕ → Option ℕ → Plain
added_at_once greatest h ns top lower = record h {
  counts = capped_sums greatest h.counts ns;
  total = min (h.total + min (sum ns) (2 ^ 64 - 1)) (2 ^ 64 - 1);
  top_mark = top;
  lower_mark = lower;
}

total-capped : (t s : ℕ) → min (t + s) (2 ^ 64 - 1) ≡ min (t + min s (2 ^ 64 - 1)) (2 ^ 64 - 1)
total-capped t s = omega arith

smalls : (greatest : ℕ) (h : Plain) → IsPlain greatest h → Small greatest h.counts
unfolding Small
smalls greatest h p = λ j. number-fits greatest h j p

added-small : (greatest : ℕ) (h : Plain) (ns : List ℕ) → Small greatest h.counts → AtEach (λ k. k < length h.counts) 0 ns → Small greatest (added_from greatest h 0 ns).counts
unfolding Small
added-small greatest h ns small each = λ j.
    let here : 0 + j ≡ j = omega arith in
    let at = added-at greatest h 0 ns j small each in
    omega (arith, at, ap (λ k. get_or (added_from greatest h 0 ns).counts k 0) here)

added-with : (greatest : ℕ) (h : Plain) (ns : List ℕ) (top lower : Option ℕ) → IsPlain greatest h → AtEach (λ k. k < length h.counts) 0 ns
    → record h { counts = (added_from greatest h 0 ns).counts; total = (added_from greatest h 0 ns).total; top_mark = top; lower_mark = lower } ≡ added_at_once greatest h ns top lower
added-with greatest h ns top lower p each =
    ap (λ l. record h { counts = l; total = (added_from greatest h 0 ns).total; top_mark = top; lower_mark = lower }) (added-counts greatest h ns (smalls greatest h p) each)
    ∙ ap (λ t. record h { counts = capped_sums greatest h.counts ns; total = t; top_mark = top; lower_mark = lower }) (added-total greatest h 0 ns (omega (arith, p.total_fits)) ∙ total-capped h.total (sum ns))

-- a source whose greatest value has a bin
module _ (greatest most : ℕ) (h s : Plain) (p : IsPlain greatest h) (q : IsPlain most s) (same : resolution s ≡ resolution h) (room : max_of s ≤ reach h) where
  each-reached : AtEach (λ k. value_of (resolution h) k ≤ reach h) 0 s.counts
  unfolding AtEach
  each-reached = λ j pos.
      let at : bin_of (resolution s) (value_of (resolution s) j) ≡ j = bin-value_of (resolution s) j (resolution-digits most s q) in
      let le : value_of (resolution s) j ≤ reach h = omega (arith, number-le-max most s j (value_of (resolution s) j) q pos at, room) in
      subst (λ k. value_of (resolution h) k ≤ reach h) (let e : j ≡ 0 + j = omega arith in e) (subst (λ (f : Resolution). value_of f j ≤ reach h) same le)

  each-inside : AtEach (λ k. k < length h.counts) 0 s.counts
  unfolding AtEach
  each-inside = λ j pos.
      let le = each-reached j pos in
      let at : bin_of (resolution h) (value_of (resolution h) (0 + j)) ≡ 0 + j = bin-value_of (resolution h) (0 + j) (resolution-digits greatest h p) in
      omega (arith, room-in greatest h (value_of (resolution h) (0 + j)) p le, at)

  recorded-are : (ts : List Times) → after_records greatest h (classes_from (resolution s) 0 s.counts ++ ts) ≡ after_records greatest (added_from greatest h 0 s.counts) ts
  recorded-are ts =
      ap (λ (f : Resolution). after_records greatest h (classes_from f 0 s.counts ++ ts)) same ∙ records-are greatest h 0 s.counts ts (resolution-digits greatest h p) each-reached

  pub fronts-none : (first : Option ℕ) → s.top_mark ≡ None → IsLowerMark s.counts first → added_at_once greatest h s.counts (later_of (later_of h.top_mark first) None) (earlier_of (earlier_of h.lower_mark first) None) ≡ after_records greatest h (classes_from (resolution s) 0 s.counts ++ [])
  unfolding AtEach
  fronts-none first none is =
      let zeros : (j : ℕ) → get_or s.counts j 0 ≡ 0 = λ j. q.none_above j (subst (λ mark. IsAbove mark j) (sym none) tt) in
      let nothing = added-nothing greatest h 0 s.counts (λ j pos. omega (arith, zeros j, pos)) in
      let w = added_from greatest h 0 s.counts in
      let gone : first ≡ None = no-first first is zeros in
      ap (λ mark. added_at_once greatest h s.counts (later_of h.top_mark mark) (earlier_of h.lower_mark mark)) gone
      ∙ sym (added-with greatest h s.counts h.top_mark h.lower_mark p each-inside)
      ∙ ap (λ (v : Plain). record h { counts = v.counts; total = v.total; top_mark = h.top_mark; lower_mark = h.lower_mark }) nothing
      ∙ sym (recorded-are [] ∙ nothing)
    where
      no-first : (first : Option ℕ) → IsLowerMark s.counts first → ((j : ℕ) → get_or s.counts j 0 ≡ 0) → first ≡ None
      no-first None is zeros = refl
      no-first (Some f) is zeros = absurd (omega (arith, is.1, zeros f))

  pub fronts-some : (first : Option ℕ) (m : ℕ) → s.top_mark ≡ Some m → IsLowerMark s.counts first → added_at_once greatest h s.counts (later_of (later_of h.top_mark first) (Some m)) (earlier_of (earlier_of h.lower_mark first) (Some m))
      ≡ after_records greatest h (classes_from (resolution s) 0 s.counts ++ record { value = value_of (resolution s) m; times = 0 } ∷ [])
  unfolding AtEach reach
  fronts-some first m is_top is =
      let w = added_from greatest h 0 s.counts in
      let v = value_of (resolution s) m in
      let below : (j : ℕ) → 0 < get_or s.counts j 0 → j ≤ m = λ j pos. elim (cases_lt m j) [ inl lt ↦ absurd (omega (arith, q.none_above j (subst (λ mark. IsAbove mark j) (sym is_top) lt), pos)) | inr le ↦ le ] in
      let parts = added-parts greatest h 0 s.counts in
      let le : v ≤ reach w = subst (λ r. v ≤ r) (sym (same-reach parts)) (omega (arith, value-le-max s m is_top, room)) in
      let at : bin_of (resolution w) v ≡ m = ap (λ (f : Resolution). bin_of f v) (ap (λ (x : Plain). resolution x) parts ∙ sym same) ∙ bin-value_of (resolution s) m (resolution-digits most s q) in
      let small = added-small greatest h s.counts (smalls greatest h p) each-inside in
      let total : w.total ≤ 2 ^ 64 - 1 = omega (arith, added-total greatest h 0 s.counts (omega (arith, p.total_fits))) in
      let last : after_record greatest w v 0 ≡ record w { top_mark = later_mark w.top_mark m; lower_mark = earlier_mark w.lower_mark m } = sym (recorded-inside greatest w v 0 le) ∙ ap (λ b. after_add_to_bin greatest w b 0) at ∙ added-mark greatest w m small total in
      let tops : later_mark w.top_mark m ≡ later_of (later_of h.top_mark first) (Some m) = added-top greatest h 0 s.counts m (λ j pos. omega (arith, below j pos)) ∙ top-by first is below in
      let lowers : earlier_mark w.lower_mark m ≡ earlier_of (earlier_of h.lower_mark first) (Some m) = ap (λ mark. earlier_mark mark m) (lower-by first is) in
      sym (recorded-are (record { value = v; times = 0 } ∷ []) ∙ last
      ∙ ap (λ (x : Plain). record x { top_mark = later_mark w.top_mark m; lower_mark = earlier_mark w.lower_mark m }) parts
      ∙ ap (λ mark. record h { counts = w.counts; total = w.total; top_mark = mark; lower_mark = earlier_mark w.lower_mark m }) tops
      ∙ ap (λ mark. record h { counts = w.counts; total = w.total; top_mark = later_of (later_of h.top_mark first) (Some m); lower_mark = mark }) lowers
      ∙ added-with greatest h s.counts (later_of (later_of h.top_mark first) (Some m)) (earlier_of (earlier_of h.lower_mark first) (Some m)) p each-inside)
    where
      same-reach : {x : Plain} {c : List ℕ} {t : ℕ} {a b : Option ℕ} → x ≡ record h { counts = c; total = t; top_mark = a; lower_mark = b } → reach x ≡ reach h
      same-reach e = ap (λ (y : Plain). reach_of (resolution y) y.high) e

      top-by : (first : Option ℕ) → IsLowerMark s.counts first → ((j : ℕ) → 0 < get_or s.counts j 0 → j ≤ m) → later_mark h.top_mark m ≡ later_of (later_of h.top_mark first) (Some m)
      top-by None is below = refl
      top-by (Some f) is below = sym (later-absorbs h.top_mark f m (below f is.1))

      own-lower : (mark : Option ℕ) → IfSome mark (λ i. (0 < i) × (i < length h.counts)) → IfSome mark (λ i. 0 < i)
      own-lower None held = tt
      own-lower (Some i) held = held.0

      lower-by : (first : Option ℕ) → IsLowerMark s.counts first → (added_from greatest h 0 s.counts).lower_mark ≡ earlier_of h.lower_mark first
      lower-by None is = added-none greatest h 0 s.counts (λ j pos. elim (cases_lt 0 j) [ inl lt ↦ absurd (omega (arith, is j lt, pos)) | inr le ↦ (let e : 0 + j ≡ 0 = omega (arith, le) in e) ])
      lower-by (Some f) is = added-lower greatest h 0 s.counts f (own-lower h.lower_mark p.lower_in_bins) is.0 (omega arith) (subst (λ k. 0 < get_or s.counts k 0) (let e : f ≡ f - 0 = omega arith in e) is.1) (λ j a b. is.2 j (omega (arith, a)) (omega (arith, b)))

-- the classes of a source recorded one by one are its numbers added at once
pub fronts-are : (greatest most : ℕ) (h s : Plain) (first : Option ℕ) → IsPlain greatest h → IsPlain most s → resolution s ≡ resolution h → max_of s ≤ reach h → IsLowerMark s.counts first
    → added_at_once greatest h s.counts (later_of (later_of h.top_mark first) s.top_mark) (earlier_of (earlier_of h.lower_mark first) s.top_mark) ≡ after_records greatest h (classes_from (resolution s) 0 s.counts ++ top_class (resolution s) s.top_mark)
fronts-are greatest most h s first p q same room is = go s.top_mark refl
  where
    go : (top : Option ℕ) → s.top_mark ≡ top → added_at_once greatest h s.counts (later_of (later_of h.top_mark first) top) (earlier_of (earlier_of h.lower_mark first) top) ≡ after_records greatest h (classes_from (resolution s) 0 s.counts ++ top_class (resolution s) top)
    go None e = fronts-none greatest most h s p q same room first e is
    go (Some m) e = fronts-some greatest most h s p q same room first m e is

pub same-classes : (f g : Resolution) → (eqb f.unit g.unit && eqb f.digits g.digits) ≡ true → f ≡ g
same-classes f g e =
    let both = and_parts (eqb f.unit g.unit) (eqb f.digits g.digits) e in
    ap (λ u. record { unit = u; digits = f.digits }) (eqb-true f.unit g.unit both.0) ∙ ap (λ d. record { unit = g.unit; digits = d }) (eqb-true f.digits g.digits both.1)
