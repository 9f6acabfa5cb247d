-- What adding one histogram to another keeps.
use Rattle.std.proofs.Common.{◌≡◌, ◌≢◌, ℕ, zero, suc, ◌+◌, ◌-◌, ◌^◌, ◌<◌, ◌≤◌, Bool, true, false, eqb, eqb-true, Option, None, Some, IfSome, min, List, [], ◌∷◌, ◌++◌, length, get_or, take, sum, ◌&&◌, refl, sym, ap, subst, ◌∙◌, arith, inl, inr}
use Rattle.std.proofs.lemmas.Bool.Decides.{nat_tests}
use Rattle.std.proofs.lemmas.Bool.{cases_lt}
use Rattle.std.proofs.lemmas.List.{get_or_past, take_all, take_more, length-take-le}
use Rattle.std.proofs.lemmas.List.Sums.{get_or-le-sum_by}
use Rattle.hdr_base.specs.Classes.{Resolution, bin_of, top_of, value_of, reach_of}
use Rattle.hdr_base.proofs.ClassesLaws.{bin-mono, bin-top, top-of-value}
use Rattle.hdr_base.proofs.ClassesFiner.{bin-value_of}
use Rattle.hdr_model.specs.Plain.{Plain, IsPlain, resolution, reach, max_of}
use Rattle.hdr_model.specs.Marks.{IsAbove, IsBelow, top_of_mark, later_of, earlier_of}
use Rattle.hdr_model.specs.Recording.{with_bins_to, after_add_to_bin, after_record, Times, after_records}
use Rattle.hdr_model.specs.Merging.{classes_from, top_class, same_bins, after_add_same_bins, after_add_within, with_room, after_add}
use Rattle.hdr_counts.specs.Blocks.{capped_sums}
use Rattle.hdr_counts.proofs.BlocksCapped.{capped-length, capped-get, capped-fit, capped-sum, capped-nothing}
use Rattle.hdr_base.proofs.ClassesReach.{reach-holds}
use Rattle.hdr_model.proofs.PlainKept.{above-later, later-in, earlier-in, widened-same, resolution-digits, leb-yes, leb-no}

-- ---- the greatest value

-- a value whose class is at or below another is at or below its top
pub value-le-top : (g : Resolution) (x j : ℕ) → 0 < g.digits → bin_of g x ≤ j → x ≤ top_of g (value_of g j)
value-le-top g x j m le =
    elim (cases_lt (value_of g j) x) [
      | inl lt ↦ (
          let at = bin-value_of g j m in
          let e : bin_of g x ≡ bin_of g (value_of g j) = omega (arith, bin-mono g (value_of g j) x m (omega arith)) in
          omega (arith, bin-top g x (value_of g j) m e, top-of-value g x)
          )
      | inr ge ↦ omega (arith, top-of-value g (value_of g j))
    ]

mark-holds : (g : Resolution) (mark : Option ℕ) (counts : List ℕ) (i x : ℕ) → 0 < g.digits → ((i : ℕ) → IsAbove mark i → get_or counts i 0 ≡ 0)
    → 0 < get_or counts i 0 → bin_of g x ≡ i → x ≤ top_of_mark g mark
mark-holds g None counts i x m none some at = absurd (omega (arith, none i tt))
mark-holds g (Some k) counts i x m none some at =
    elim (cases_lt k i) [
      | inl lt ↦ absurd (omega (arith, none i lt))
      | inr ge ↦ value-le-top g x k m (omega arith)
    ]

-- each value of a nonempty class is at or below the greatest
pub number-le-max : (greatest : ℕ) (h : Plain) (i x : ℕ) → IsPlain greatest h → 0 < get_or h.counts i 0 → bin_of (resolution h) x ≡ i → x ≤ max_of h
unfolding max_of
number-le-max greatest h i x p some at = mark-holds (resolution h) h.top_mark h.counts i x (resolution-digits greatest h p) p.none_above some at

pub max-none : (h : Plain) → ((i : ℕ) → h.top_mark ≡ Some i → ⊥) → 0 ≡ max_of h
unfolding max_of
max-none h unmarked = go h.top_mark unmarked
  where
    go : (mark : Option ℕ) → ((i : ℕ) → mark ≡ Some i → ⊥) → 0 ≡ top_of_mark (resolution h) mark
    go None unmarked = refl
    go (Some i) unmarked = absurd (unmarked i refl)

pub mark-in : (greatest : ℕ) (h : Plain) (i : ℕ) → IsPlain greatest h → h.top_mark ≡ Some i → i < length h.counts
mark-in greatest h i p e = subst (λ o. IfSome o (λ i. i < length h.counts)) e p.top_in_bins

-- the top mark's class starts at or below the greatest value
pub value-le-max : (h : Plain) (i : ℕ) → h.top_mark ≡ Some i → value_of (resolution h) i ≤ max_of h
unfolding max_of
value-le-max h i e = subst (λ o. value_of (resolution h) i ≤ top_of_mark (resolution h) o) (sym e) (top-of-value (resolution h) (value_of (resolution h) i))

-- ---- the later and the earlier mark

pub eqb-no : (a b : ℕ) → a ≢ b → eqb a b ≡ false
eqb-no a b h = grind (arith, nat_tests)

pub eqb-yes : (a b : ℕ) → a ≡ b → eqb a b ≡ true
eqb-yes a b h = grind (arith, nat_tests)

pub above-later_of : (a b : Option ℕ) (j : ℕ) → IsAbove (later_of a b) j → IsAbove a j × IsAbove b j
above-later_of a None j h = (h, above-any a j h)
  where
    above-any : (a : Option ℕ) (j : ℕ) → IsAbove a j → Unit {0}
    above-any a j h = tt
above-later_of a (Some i) j h = above-later a i j h

pub below-earlier_of : (a b : Option ℕ) (j : ℕ) → IfSome b (λ i. 0 < i) → IsBelow (earlier_of a b) j → IsBelow a j × IsBelow b j
below-earlier_of None None j pos h = (h, h)
below-earlier_of (Some k) None j pos h = (h, h.0)
below-earlier_of None (Some i) j pos h =
    let k : IsBelow (Some i) j = rw (eqb-no i 0 (λ e. omega arith)) at h in
    (k.0, k)
below-earlier_of (Some m) (Some i) j pos h =
    let k : IsBelow (Some (min m i)) j = rw (eqb-no i 0 (λ e. omega arith)) at h in
    ((k.0, omega (arith, k.1)), (k.0, omega (arith, k.1)))

later_of-in : (a b : Option ℕ) (n : ℕ) → IfSome a (λ i. i < n) → IfSome b (λ i. i < n) → IfSome (later_of a b) (λ i. i < n)
later_of-in a None n h k = h
later_of-in a (Some i) n h k = later-in a i n k h

earlier_of-in : (a b : Option ℕ) (n : ℕ) → IfSome a (λ i. (0 < i) × (i < n)) → IfSome b (λ i. (0 < i) × (i < n)) → IfSome (earlier_of a b) (λ i. (0 < i) × (i < n))
earlier_of-in a None n h k = h
earlier_of-in a (Some i) n h k = earlier-in a i n k.1 h

lower-pos : (a : Option ℕ) (n : ℕ) → IfSome a (λ i. (0 < i) × (i < n)) → IfSome a (λ i. 0 < i)
lower-pos None n h = tt
lower-pos (Some i) n h = h.0

-- ---- a source of the same bins

pub both : (a b : Bool) → a && b ≡ true → (a ≡ true) × (b ≡ true)
both true b e = (refl, e)
both false b e = absurd (false-true e)
  where
    false-true : false ≡ true → ⊥
    false-true e = cc

pub same-bins : (h s : Plain) → same_bins h s ≡ true → (resolution h ≡ resolution s) × (length h.counts ≡ length s.counts)
same-bins h s e =
    let a = both (eqb (resolution h).unit (resolution s).unit) (eqb (resolution h).digits (resolution s).digits && eqb (length h.counts) (length s.counts)) e in
    let b = both (eqb (resolution h).digits (resolution s).digits) (eqb (length h.counts) (length s.counts)) a.1 in
    (resolutions (resolution h) (resolution s) (eqb-true (resolution h).unit (resolution s).unit a.0) (eqb-true (resolution h).digits (resolution s).digits b.0), eqb-true (length h.counts) (length s.counts) b.1)
  where
    resolutions : (f g : Resolution) → f.unit ≡ g.unit → f.digits ≡ g.digits → f ≡ g
    resolutions f g a b = ap (λ u. record { unit = u; digits = f.digits }) a ∙ ap (λ d. record { unit = g.unit; digits = d }) b

module _ (greatest most : ℕ) (h s : Plain) (one : 1 ≤ greatest) (same : length h.counts ≡ length s.counts) (p : IsPlain greatest h) (q : IsPlain most s) where
  -- into an empty target
  pub IsPlain-taken : h.total ≡ 0 → IsPlain greatest (record h { counts = capped_sums greatest h.counts s.counts; total = s.total; top_mark = s.top_mark; lower_mark = s.lower_mark })
  IsPlain-taken none =
      let zero_sum : sum h.counts ≡ 0 = p.empty none in
      let at : (i : ℕ) → get_or h.counts i 0 ≡ 0 = λ i. elim (cases_lt i (length h.counts)) [
        | inl lt ↦ omega (arith, get_or-le-sum_by (λ x. x) h.counts i 0 lt)
        | inr ge ↦ get_or_past h.counts i 0 ge
      ] in
      record {
        scale = p.scale;
        high_fits = p.high_fits;
        wide = p.wide;
        bins = capped-length greatest h.counts s.counts ∙ p.bins;
        numbers_fit = capped-fit greatest h.counts s.counts p.numbers_fit;
        total_fits = q.total_fits;
        total_covers = omega (arith, capped-sum greatest h.counts s.counts, q.total_covers);
        empty = λ e. omega (arith, capped-sum greatest h.counts s.counts, q.empty e);
        nothing = λ e. q.nothing (omega (arith, capped-nothing greatest h.counts s.counts one same e));
        top_in_bins = rw (capped-length greatest h.counts s.counts, same) q.top_in_bins;
        lower_in_bins = rw (capped-length greatest h.counts s.counts, same) q.lower_in_bins;
        none_above = λ i above. omega (arith, capped-get greatest h.counts s.counts i same, at i, q.none_above i above);
        none_below = λ i below. omega (arith, capped-get greatest h.counts s.counts i same, at i, q.none_below i below);
      }

  -- into a target that isn't empty
  pub IsPlain-summed : h.total ≢ 0 → IsPlain greatest (record h {
    counts = capped_sums greatest h.counts s.counts;
    total = min (h.total + min (sum s.counts) (2 ^ 64 - 1)) (2 ^ 64 - 1);
    top_mark = later_of h.top_mark s.top_mark;
    lower_mark = earlier_of h.lower_mark s.lower_mark;
  })
  IsPlain-summed some =
      let in_low : IfSome s.lower_mark (λ i. (0 < i) × (i < length h.counts)) = rw same q.lower_in_bins in
      let in_top : IfSome s.top_mark (λ i. i < length h.counts) = rw same q.top_in_bins in
      let pos : 0 < h.total = omega arith in
      record {
        scale = p.scale;
        high_fits = p.high_fits;
        wide = p.wide;
        bins = capped-length greatest h.counts s.counts ∙ p.bins;
        numbers_fit = capped-fit greatest h.counts s.counts p.numbers_fit;
        total_fits = omega arith;
        total_covers = omega (arith, capped-sum greatest h.counts s.counts, p.total_covers);
        empty = λ e. absurd (omega arith);
        nothing = λ e. (let none : sum h.counts ≡ 0 = omega (arith, capped-nothing greatest h.counts s.counts one same e) in absurd (some (p.nothing none)));
        top_in_bins = rw (capped-length greatest h.counts s.counts) (later_of-in h.top_mark s.top_mark (length h.counts) p.top_in_bins in_top);
        lower_in_bins = rw (capped-length greatest h.counts s.counts) (earlier_of-in h.lower_mark s.lower_mark (length h.counts) p.lower_in_bins in_low);
        none_above = λ i above.
            let both = above-later_of h.top_mark s.top_mark i above in
            omega (arith, capped-get greatest h.counts s.counts i same, p.none_above i both.0, q.none_above i both.1);
        none_below = λ i below.
            let both = below-earlier_of h.lower_mark s.lower_mark i (lower-pos s.lower_mark (length s.counts) q.lower_in_bins) below in
            omega (arith, capped-get greatest h.counts s.counts i same, p.none_below i both.0, q.none_below i both.1);
      }

pub joined-empty : (greatest : ℕ) (h s : Plain) → h.total ≡ 0
    → record h { counts = capped_sums greatest h.counts s.counts; total = s.total; top_mark = s.top_mark; lower_mark = s.lower_mark } ≡ after_add_same_bins greatest h s
unfolding after_add_same_bins
joined-empty greatest h s e = rw (eqb-yes h.total 0 e) refl

pub joined-some : (greatest : ℕ) (h s : Plain) → h.total ≢ 0
    → record h {
      counts = capped_sums greatest h.counts s.counts;
      total = min (h.total + min (sum s.counts) (2 ^ 64 - 1)) (2 ^ 64 - 1);
      top_mark = later_of h.top_mark s.top_mark;
      lower_mark = earlier_of h.lower_mark s.lower_mark;
    } ≡ after_add_same_bins greatest h s
unfolding after_add_same_bins
joined-some greatest h s n = rw (eqb-no h.total 0 n) refl

-- ---- a source of other bins

pub recorded_each-append : (greatest : ℕ) (h : Plain) (ts us : List Times) → after_records greatest h (ts ++ us) ≡ after_records greatest (after_records greatest h ts) us
recorded_each-append greatest h [] us = refl
recorded_each-append greatest h (t ∷ ts) us = recorded_each-append greatest (after_record greatest h t.value t.times) ts us

-- one more class
pub classes-more-none : (g : Resolution) (k : ℕ) (ns : List ℕ) → classes_from g k (ns ++ 0 ∷ []) ≡ classes_from g k ns
classes-more-none g k [] = refl
classes-more-none g k (zero ∷ ns) = classes-more-none g (suc k) ns
classes-more-none g k (suc n ∷ ns) = ap (λ ts. record { value = value_of g k; times = suc n } ∷ ts) (classes-more-none g (suc k) ns)

-- what one more zero leaves the same is the same past each run of zeros
pub past-zeros : {A : Type 0} (F : List ℕ → A) → ((ns : List ℕ) → F (ns ++ 0 ∷ []) ≡ F ns) → (ns : List ℕ) (a b : ℕ) → a ≤ b
    → ((i : ℕ) → a ≤ i → i < b → get_or ns i 0 ≡ 0) → F (take b ns) ≡ F (take a ns)
past-zeros F more [] a b le none = ap F (take_all b [] (omega arith) ∙ sym (take_all a [] (omega arith)))
past-zeros F more (n ∷ ns) zero zero le none = refl
past-zeros F more (n ∷ ns) (suc a) zero le none = absurd (omega arith)
past-zeros F more (n ∷ ns) zero (suc b) le none =
    past-zeros (λ l. F (n ∷ l)) (λ l. more (n ∷ l)) ns zero b (omega arith) (λ i from to. none (suc i) (omega arith) (omega arith))
    ∙ ap (λ m. F (m ∷ [])) (none 0 (omega arith) (omega arith)) ∙ more []
past-zeros F more (n ∷ ns) (suc a) (suc b) le none =
    past-zeros (λ l. F (n ∷ l)) (λ l. more (n ∷ l)) ns a b (omega arith) (λ i from to. none (suc i) (omega arith) (omega arith))

pub classes-more-some : (g : Resolution) (k n : ℕ) (ns : List ℕ) → 0 < n → classes_from g k (ns ++ n ∷ []) ≡ classes_from g k ns ++ record { value = value_of g (k + length ns); times = n } ∷ []
classes-more-some g k zero [] pos = absurd (omega arith)
classes-more-some g k (suc n) [] pos = ap (λ i. record { value = value_of g i; times = suc n } ∷ []) (let e : k ≡ k + 0 = omega arith in e)
classes-more-some g k n (zero ∷ ns) pos =
    classes-more-some g (suc k) n ns pos ∙ ap (λ i. classes_from g (suc k) ns ++ record { value = value_of g i; times = n } ∷ []) (let e : suc k + length ns ≡ k + suc (length ns) = omega arith in e)
classes-more-some g k n (suc m ∷ ns) pos =
    ap (λ ts. record { value = value_of g k; times = suc m } ∷ ts)
    (classes-more-some g (suc k) n ns pos ∙ ap (λ i. classes_from g (suc k) ns ++ record { value = value_of g i; times = n } ∷ []) (let e : suc k + length ns ≡ k + suc (length ns) = omega arith in e))

pub reach-recorded : (greatest : ℕ) (h : Plain) (v n : ℕ) → v ≤ reach h → reach (after_record greatest h v n) ≡ reach h
unfolding after_record after_add_to_bin reach
reach-recorded greatest h v n le = ap (λ (w : Plain). reach_of (resolution w) w.high) (widened-same h v le)

pub recorded-inside : (greatest : ℕ) (h : Plain) (v n : ℕ) → v ≤ reach h → after_add_to_bin greatest h (bin_of (resolution h) v) n ≡ after_record greatest h v n
unfolding after_record
recorded-inside greatest h v n le = ap (λ (w : Plain). after_add_to_bin greatest w (bin_of (resolution h) v) n) (sym (widened-same h v le))

-- ---- bins for a source

pub with_room-same : (h : Plain) (x : ℕ) → x ≤ reach h → with_room h x ≡ h
unfolding with_room
with_room-same h x le = rw (leb-yes x (reach h) le) refl

pub with_room-more : (h : Plain) (x : ℕ) → reach h < x → with_room h x ≡ with_bins_to h x
unfolding with_room
with_room-more h x lt = rw (leb-no x (reach h) lt) refl

pub with_room-reach : (h : Plain) (x : ℕ) → x ≤ reach (with_room h x)
unfolding reach with_bins_to
with_room-reach h x = elim (cases_lt (reach h) x) [
  | inl lt ↦ rw (with_room-more h x lt) (reach-holds (resolution h) x)
  | inr le ↦ rw (with_room-same h x le) le
]

pub merged-none : (greatest : ℕ) (h s : Plain) → s.total ≡ 0 → after_add greatest h s ≡ h
unfolding after_add
merged-none greatest h s e = rw (eqb-yes s.total 0 e) refl

pub merged-some : (greatest : ℕ) (h s : Plain) → s.total ≢ 0 → after_add greatest h s ≡ after_add_within greatest (with_room h (max_of s)) s
unfolding after_add
merged-some greatest h s n = rw (eqb-no s.total 0 n) refl

-- ---- the classes of a source, one more at a time

module _ (greatest : ℕ) (h : Plain) (g : Resolution) (ns : List ℕ) (i : ℕ) where
  pub classes-next : i < length ns → 0 < get_or ns i 0
      → after_record greatest (after_records greatest h (classes_from g 0 (take i ns))) (value_of g i) (get_or ns i 0) ≡ after_records greatest h (classes_from g 0 (take (i + 1) ns))
  classes-next lt pos =
      let n = get_or ns i 0 in
      let more : take (i + 1) ns ≡ take i ns ++ n ∷ [] = take_more ns i 0 lt in
      let place : 0 + length (take i ns) ≡ i = omega (arith, length-take-le i ns (omega arith)) in
      let last : Times = record { value = value_of g i; times = n } in
      let classes : classes_from g 0 (take (i + 1) ns) ≡ classes_from g 0 (take i ns) ++ last ∷ [] =
      ap (λ l. classes_from g 0 l) more ∙ classes-more-some g 0 n (take i ns) pos ∙ ap (λ k. classes_from g 0 (take i ns) ++ record { value = value_of g k; times = n } ∷ []) place in
      sym (ap (λ ts. after_records greatest h ts) classes ∙ recorded_each-append greatest h (classes_from g 0 (take i ns)) (last ∷ []))

pub classes-end : (greatest : ℕ) (h : Plain) (g : Resolution) (ns : List ℕ) (mark : Option ℕ) (i : ℕ) → mark ≡ Some i
    → after_record greatest (after_records greatest h (classes_from g 0 ns)) (value_of g i) 0 ≡ after_records greatest h (classes_from g 0 ns ++ top_class g mark)
classes-end greatest h g ns mark i e =
    sym (ap (λ o. after_records greatest h (classes_from g 0 ns ++ top_class g o)) e ∙ recorded_each-append greatest h (classes_from g 0 ns) (top_class g (Some i)))

pub taken-same : (greatest : ℕ) (h s : Plain) → same_bins h s ≡ true → after_add_same_bins greatest h s ≡ after_add_within greatest h s
unfolding after_add_within
taken-same greatest h s e = rw e refl

pub taken-other : (greatest : ℕ) (h s : Plain) → same_bins h s ≡ false
    → after_records greatest h (classes_from (resolution s) 0 s.counts ++ top_class (resolution s) s.top_mark) ≡ after_add_within greatest h s
unfolding after_add_within
taken-other greatest h s e = rw e refl
