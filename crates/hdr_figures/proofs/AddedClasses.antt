-- A histogram that is added as its nonempty classes are recorded.
use Rattle.std.proofs.Common.{◌≡◌, ◌≢◌, ◌∙◌, ℕ, zero, suc, ◌+◌, ◌-◌, ◌^◌, ◌<◌, ◌≤◌, Bool, true, false, cond, min, max, List, [], ◌∷◌, ◌++◌, length, map, sum, get_or, set, take, take_all, Option, None, Some, MatchOption, refl, ap, sym, subst, arith, inl, inr, append-nil, length-append, length-take-le}
use Rattle.std.specs.List.{All, slice_get}
use Rattle.std.specs.Option.{option_map}
use Rattle.std.proofs.lemmas.Bool.{cases_lt, cases_eq}
use Rattle.std.proofs.lemmas.List.{get_or_past, get_or-set_same, length-map, length-set, set-get_or, take_more, get_or_append_left}
use Rattle.std.proofs.lemmas.List.Sums.{sum_by-cons}
use Rattle.std.proofs.lemmas.Option.{slice_get-map}
use Rattle.hdr_base.specs.Classes.{Resolution, bin_of, top_of, value_of}
use Rattle.hdr_model.specs.Marks.{IsTopMark, IsLowerMark, top_of_mark, later_mark, earlier_mark, later_of, earlier_of}
use Rattle.hdr_model.specs.Merging.{classes_from, top_class, same_bins, after_add_same_bins, after_add_within, with_room, after_add}
use Rattle.hdr_model.specs.Plain.{Plain, IsPlain, resolution, reach, max_of}
use Rattle.hdr_model.specs.Recording.{Times, with_bins_to, with_bins_for, after_add_to_bin, after_record, after_records, after_reset}
use Rattle.hdr_model.proofs.MergingFronts.{added_at_once, fronts-are}
use Rattle.hdr_model.proofs.MergingKeeps.{eqb-yes, eqb-no, same-bins, joined-empty, joined-some, recorded_each-append, classes-more-none, classes-more-some, past-zeros, recorded-inside, reach-recorded, value-le-max, with_room-same, merged-none, merged-some, taken-same, taken-other}
use Rattle.hdr_model.proofs.MergingStands.{reach-each, classes-inside}
use Rattle.hdr_model.proofs.PlainKept.{widened-same, widened-more, resolution-recorded}
use Rattle.hdrhistogram.specs.ClassesRead.{times_of}
use Rattle.hdrhistogram.specs.V2Read.{IsRestated}
use Rattle.hdrhistogram.specs.declared.serialization.class_decoder.RecordedBounds.{RecordedBounds}
use Rattle.hdrhistogram.specs.declared.serialization.class_decoder.RecordedClass.{RecordedClass}
use Rattle.hdr_figures.specs.Classes.{IsMarkedBySamples, ListsClasses}

-- ---- the last class

pub last-class : (g : Resolution) (counts : List ℕ) (m : ℕ) → IsTopMark counts (Some m) → classes_from g 0 counts ≡ classes_from g 0 (take m counts) ++ record { value = value_of g m; times = get_or counts m 0 } ∷ []
last-class g counts m top =
    let inside : m < length counts = elim (cases_lt m (length counts)) [ inl lt ↦ lt | inr past ↦ absurd (omega (arith, top.0, get_or_past counts m 0 past)) ] in
    let cut : classes_from g 0 (take (length counts) counts) ≡ classes_from g 0 (take (m + 1) counts) = past-zeros (classes_from g 0) (classes-more-none g 0) counts (m + 1) (length counts) (omega arith) (λ i from to. top.1 i (omega arith)) in
    let place : 0 + length (take m counts) ≡ m = omega (arith, length-take-le m counts (omega arith)) in
    ap (classes_from g 0) (sym (take_all (length counts) counts (omega arith))) ∙ cut ∙ ap (classes_from g 0) (take_more counts m 0 inside)
    ∙ classes-more-some g 0 (get_or counts m 0) (take m counts) top.0 ∙ ap (λ k. classes_from g 0 (take m counts) ++ record { value = value_of g k; times = get_or counts m 0 } ∷ []) place

none-of : (g : Resolution) (k : ℕ) (ns : List ℕ) → ((i : ℕ) → get_or ns i 0 ≡ 0) → classes_from g k ns ≡ []
none-of g k [] none = refl
none-of g k (zero ∷ ns) none = none-of g (suc k) ns (λ i. none (suc i))
none-of g k (suc n ∷ ns) none = absurd (omega (arith, none 0))

slice-last : (ts : List Times) (t : Times) → slice_get (ts ++ t ∷ []) (length ts) ≡ Some t
slice-last [] t = refl
slice-last (u ∷ ts) t = slice-last ts t

-- the last of classes that are listed
module _ (items : List RecordedClass) (found : Option RecordedClass) (is : found ≡ slice_get items (length items - 1)) where
  last-times : (ts : List Times) → map times_of items ≡ ts → option_map times_of found ≡ slice_get ts (length ts - 1)
  last-times ts are =
      ap (option_map times_of) is ∙ sym (slice_get-map times_of items (length items - 1)) ∙ ap (λ l. slice_get l (length items - 1)) are
      ∙ ap (slice_get ts) (let e : length items - 1 ≡ length ts - 1 = omega (arith, length-map items times_of, ap length are) in e)

  last-is : (ts : List Times) (t : Times) → map times_of items ≡ ts ++ t ∷ [] → option_map times_of found ≡ Some t
  last-is ts t are =
      last-times (ts ++ t ∷ []) are ∙ ap (slice_get (ts ++ t ∷ [])) (let e : length (ts ++ t ∷ []) - 1 ≡ length ts = omega (arith, length-append ts (t ∷ [])) in e) ∙ slice-last ts t

  -- its greatest value is that of the histogram
  pub max-is : (h : Plain) (bounds : RecordedBounds) → ListsClasses bounds items h → MatchOption found (0 ≡ max_of h) (λ class. top_of (resolution h) class.value ≡ max_of h)
  unfolding max_of
  max-is h bounds l = go found h.top_mark l.restated.top_mark (last-times (classes_from (resolution h) 0 h.counts) l.items) (λ m top. last-is (classes_from (resolution h) 0 (take m h.counts)) (record { value = value_of (resolution h) m; times = get_or h.counts m 0 }) (l.items ∙ last-class (resolution h) h.counts m top))
    where
      go : (o : Option RecordedClass) (mark : Option ℕ) → IsTopMark h.counts mark → option_map times_of o ≡ slice_get (classes_from (resolution h) 0 h.counts) (length (classes_from (resolution h) 0 h.counts) - 1)
          → ((m : ℕ) → IsTopMark h.counts (Some m) → option_map times_of o ≡ Some (record { value = value_of (resolution h) m; times = get_or h.counts m 0 }))
          → MatchOption o (0 ≡ top_of_mark (resolution h) mark) (λ class. top_of (resolution h) class.value ≡ top_of_mark (resolution h) mark)
      go None None top e f = refl
      go None (Some m) top e f = absurd (never (f m top))
        where
          never : {t : Times} → ◌≡◌ {A = Option Times} None (Some t) → ⊥
          never e = cc
      go (Some class) None top e f = absurd (never (e ∙ ap (λ ts. slice_get ts (length ts - 1)) (none-of (resolution h) 0 h.counts top)))
        where
          never : ◌≡◌ {A = Option Times} (Some (times_of class)) None → ⊥
          never e = cc
      go (Some class) (Some m) top e f = ap (top_of (resolution h)) (value_is (f m top))
        where
          value_is : {t : Times} → ◌≡◌ {A = Option Times} (Some (times_of class)) (Some t) → class.value ≡ t.value
          value_is {t} e = ap (λ (u : Times). u.value) (let same : times_of class ≡ t = cc in same)

-- ---- a class that is recorded once more, no times

later-twice : (mark : Option ℕ) (i : ℕ) → later_mark (later_mark mark i) i ≡ later_mark mark i
later-twice None i = ap Some (let e : max i i ≡ i = omega arith in e)
later-twice (Some m) i = ap Some (let e : max (max m i) i ≡ max m i = omega arith in e)

earlier-first : (mark : Option ℕ) (i : ℕ) → i ≡ 0 → earlier_mark mark i ≡ mark
earlier-first None i e = ap (λ b. cond b None (Some i)) (eqb-yes i 0 e)
earlier-first (Some m) i e = ap (λ b. cond b (Some m) (Some (min m i))) (eqb-yes i 0 e)

earlier-none : (i : ℕ) → i ≢ 0 → earlier_mark None i ≡ Some i
earlier-none i n = ap (λ b. cond b None (Some i)) (eqb-no i 0 n)

earlier-some : (m i : ℕ) → i ≢ 0 → earlier_mark (Some m) i ≡ Some (min m i)
earlier-some m i n = ap (λ b. cond b (Some m) (Some (min m i))) (eqb-no i 0 n)

earlier-twice : (mark : Option ℕ) (i : ℕ) → earlier_mark (earlier_mark mark i) i ≡ earlier_mark mark i
earlier-twice mark i = elim (cases_eq i 0) [
  | inl e ↦ ap (λ m. earlier_mark m i) (earlier-first mark i e)
  | inr n ↦ others mark n
]
  where
    others : (mark : Option ℕ) → i ≢ 0 → earlier_mark (earlier_mark mark i) i ≡ earlier_mark mark i
    others None n = ap (λ m. earlier_mark m i) (earlier-none i n) ∙ earlier-some i i n ∙ ap Some (let e : min i i ≡ i = omega arith in e) ∙ sym (earlier-none i n)
    others (Some m) n = ap (λ m. earlier_mark m i) (earlier-some m i n) ∙ earlier-some (min m i) i n ∙ ap Some (let e : min (min m i) i ≡ min m i = omega arith in e) ∙ sym (earlier-some m i n)

added-again : (greatest : ℕ) (h : Plain) (b n : ℕ) → after_add_to_bin greatest (after_add_to_bin greatest h b n) b 0 ≡ after_add_to_bin greatest h b n
unfolding after_add_to_bin
added-again greatest h b n =
    let x = min (get_or h.counts b 0 + n) greatest in
    let ns = set h.counts b x in
    let small : get_or ns b 0 ≤ greatest = elim (cases_lt b (length h.counts)) [
      | inl lt ↦ omega (arith, get_or-set_same h.counts b x 0 lt)
      | inr past ↦ omega (arith, get_or_past ns b 0 (omega (arith, past, length-set h.counts b x)))
    ] in
    let same : min (get_or ns b 0 + 0) greatest ≡ get_or ns b 0 = omega (arith, small) in
    let total : min (min (h.total + n) (2 ^ 64 - 1) + 0) (2 ^ 64 - 1) ≡ min (h.total + n) (2 ^ 64 - 1) = omega arith in
    ap (λ l. record h { counts = l; total = min (min (h.total + n) (2 ^ 64 - 1) + 0) (2 ^ 64 - 1); top_mark = later_mark (later_mark h.top_mark b) b; lower_mark = earlier_mark (earlier_mark h.lower_mark b) b }) (ap (set ns b) same ∙ set-get_or ns b 0)
    ∙ ap (λ t. record h { counts = ns; total = t; top_mark = later_mark (later_mark h.top_mark b) b; lower_mark = earlier_mark (earlier_mark h.lower_mark b) b }) total
    ∙ ap (λ m. record h { counts = ns; total = min (h.total + n) (2 ^ 64 - 1); top_mark = m; lower_mark = earlier_mark (earlier_mark h.lower_mark b) b }) (later-twice h.top_mark b)
    ∙ ap (λ m. record h { counts = ns; total = min (h.total + n) (2 ^ 64 - 1); top_mark = later_mark h.top_mark b; lower_mark = m }) (earlier-twice h.lower_mark b)

recorded-again : (greatest : ℕ) (h : Plain) (v n : ℕ) → v ≤ reach h → after_record greatest (after_record greatest h v n) v 0 ≡ after_record greatest h v n
recorded-again greatest h v n le =
    let k = after_record greatest h v n in
    let b = bin_of (resolution h) v in
    let is : k ≡ after_add_to_bin greatest h b n = sym (recorded-inside greatest h v n le) in
    sym (recorded-inside greatest k v 0 (subst (λ r. v ≤ r) (sym (reach-recorded greatest h v n le)) le))
    ∙ ap (λ g. after_add_to_bin greatest k (bin_of g v) 0) (resolution-recorded greatest h v n)
    ∙ ap (λ w. after_add_to_bin greatest w b 0) is ∙ added-again greatest h b n ∙ sym is

all-front : (P : Times → Type 0) (ts us : List Times) → All P (ts ++ us) → All P ts
all-front P ts us all k d inside = subst P (get_or_append_left ts us d k inside) (all k d (omega (arith, inside, length-append ts us)))

-- recording the top mark's class no times changes nothing
top-nothing : (greatest most : ℕ) (h s : Plain) → IsPlain most s → IsRestated s → max_of s ≤ reach h
    → after_records greatest h (classes_from (resolution s) 0 s.counts ++ top_class (resolution s) s.top_mark) ≡ after_records greatest h (classes_from (resolution s) 0 s.counts)
top-nothing greatest most h s q restated room = go s.top_mark refl restated.top_mark
  where
    go : (mark : Option ℕ) → s.top_mark ≡ mark → IsTopMark s.counts mark → after_records greatest h (classes_from (resolution s) 0 s.counts ++ top_class (resolution s) mark) ≡ after_records greatest h (classes_from (resolution s) 0 s.counts)
    go None e top = ap (after_records greatest h) (append-nil (classes_from (resolution s) 0 s.counts))
    go (Some m) e top =
        let g = resolution s in
        let ts = classes_from g 0 s.counts in
        let init = classes_from g 0 (take m s.counts) in
        let v = value_of g m in
        let n = get_or s.counts m 0 in
        let one : List Times = record { value = v; times = n } ∷ [] in
        let are : ts ≡ init ++ one = last-class g s.counts m top in
        let P : Times → Type 0 = λ t. t.value ≤ reach h in
        let all : All P ts = all-front P ts (top_class g s.top_mark) (classes-inside most s (reach h) q room) in
        let front : All P init = all-front P init one (subst (All P) are all) in
        let w = after_records greatest h init in
        let is : after_records greatest h ts ≡ after_record greatest w v n = ap (after_records greatest h) are ∙ recorded_each-append greatest h init one in
        let le : v ≤ reach w = subst (λ r. v ≤ r) (sym (reach-each greatest h init front)) (omega (arith, value-le-max s m e, room)) in
        recorded_each-append greatest h ts (record { value = v; times = 0 } ∷ []) ∙ ap (λ x. after_record greatest x v 0) is ∙ recorded-again greatest w v n le ∙ sym is

-- ---- bins of the same classes

later-none : (mark : Option ℕ) → later_of None mark ≡ mark
later-none None = refl
later-none (Some m) = refl

later-first : (counts : List ℕ) (mark first top : Option ℕ) → IsTopMark counts top → IsLowerMark counts first → later_of (later_of mark first) top ≡ later_of mark top
later-first counts mark None top is lower = refl
later-first counts mark (Some f) None is lower = absurd (omega (arith, lower.1, is f))
later-first counts None (Some f) (Some m) is lower = ap Some (let e : max f m ≡ m = omega (arith, up) in e)
  where
    up : f ≤ m
    up = elim (cases_lt m f) [ inl lt ↦ absurd (omega (arith, lower.1, is.1 f lt)) | inr le ↦ le ]
later-first counts (Some x) (Some f) (Some m) is lower = ap Some (let e : max (max x f) m ≡ max x m = omega (arith, up) in e)
  where
    up : f ≤ m
    up = elim (cases_lt m f) [ inl lt ↦ absurd (omega (arith, lower.1, is.1 f lt)) | inr le ↦ le ]

earlier-top : (counts : List ℕ) (mark first top : Option ℕ) → IsTopMark counts top → IsLowerMark counts first → earlier_of (earlier_of mark first) top ≡ earlier_of mark first
earlier-top counts mark first None is lower = refl
earlier-top counts mark None (Some m) is lower = elim (cases_eq m 0) [
  | inl e ↦ earlier-first mark m e
  | inr n ↦ absurd (omega (arith, is.0, lower m (omega (arith, n))))
]
earlier-top counts mark (Some f) (Some m) is lower = by_mark mark
  where
    up : f ≤ m
    up = elim (cases_lt m f) [ inl lt ↦ absurd (omega (arith, lower.1, is.1 f lt)) | inr le ↦ le ]

    some : m ≢ 0
    some = λ e. omega (arith, e, up, lower.0)

    pos : f ≢ 0
    pos = λ e. omega (arith, e, lower.0)

    by_mark : (mark : Option ℕ) → earlier_mark (earlier_mark mark f) m ≡ earlier_mark mark f
    by_mark None = ap (λ o. earlier_mark o m) (earlier-none f pos) ∙ earlier-some f m some ∙ ap Some (let e : min f m ≡ f = omega (arith, up) in e) ∙ sym (earlier-none f pos)
    by_mark (Some x) = ap (λ o. earlier_mark o m) (earlier-some x f pos) ∙ earlier-some (min x f) m some ∙ ap Some (let e : min (min x f) m ≡ min x f = omega (arith, up) in e) ∙ sym (earlier-some x f pos)

earlier-alone : (counts : List ℕ) (first : Option ℕ) → IsLowerMark counts first → earlier_of None first ≡ first
earlier-alone counts None lower = refl
earlier-alone counts (Some f) lower = earlier-none f (λ e. omega (arith, e, lower.0))

joined-is : (greatest : ℕ) (h s : Plain) → IsRestated s → IsMarkedBySamples h
    → after_add_same_bins greatest h s ≡ added_at_once greatest h s.counts (later_of (later_of h.top_mark s.lower_mark) s.top_mark) (earlier_of (earlier_of h.lower_mark s.lower_mark) s.top_mark)
joined-is greatest h s restated marked =
    let tops = later-first s.counts h.top_mark s.lower_mark s.top_mark restated.top_mark restated.lower_mark in
    let lowers = earlier-top s.counts h.lower_mark s.lower_mark s.top_mark restated.top_mark restated.lower_mark in
    let cs = (added_at_once greatest h s.counts None None).counts in
    let t = min (h.total + min (sum s.counts) (2 ^ 64 - 1)) (2 ^ 64 - 1) in
    elim (cases_eq h.total 0) [
      | inl e ↦ (
          let none = marked e in
          let total : s.total ≡ t = omega (arith, restated.total, e) in
          let top : s.top_mark ≡ later_of h.top_mark s.top_mark = sym (later-none s.top_mark) ∙ ap (λ m. later_of m s.top_mark) (sym none.0) in
          let lower : s.lower_mark ≡ earlier_of h.lower_mark s.lower_mark = sym (earlier-alone s.counts s.lower_mark restated.lower_mark) ∙ ap (λ m. earlier_of m s.lower_mark) (sym none.1) in
          sym (joined-empty greatest h s e)
          ∙ ap (λ n. record h { counts = cs; total = n; top_mark = s.top_mark; lower_mark = s.lower_mark }) total
          ∙ ap (λ m. record h { counts = cs; total = t; top_mark = m; lower_mark = s.lower_mark }) (top ∙ sym tops)
          ∙ ap (λ m. record h { counts = cs; total = t; top_mark = later_of (later_of h.top_mark s.lower_mark) s.top_mark; lower_mark = m }) (lower ∙ sym lowers))
      | inr n ↦
          sym (joined-some greatest h s n)
          ∙ ap (λ m. record h { counts = cs; total = t; top_mark = m; lower_mark = earlier_of h.lower_mark s.lower_mark }) (sym tops)
          ∙ ap (λ m. record h { counts = cs; total = t; top_mark = later_of (later_of h.top_mark s.lower_mark) s.top_mark; lower_mark = m }) (sym lowers)
    ]

-- ---- any bins

none-from : (g : Resolution) (k : ℕ) (ns : List ℕ) → sum ns ≡ 0 → classes_from g k ns ≡ []
none-from g k [] e = refl
none-from g k (zero ∷ ns) e = none-from g (suc k) ns (omega (arith, sum_by-cons (λ x. x) 0 ns, e))
none-from g k (suc n ∷ ns) e = absurd (omega (arith, sum_by-cons (λ x. x) (suc n) ns, e))

-- a histogram is added as its classes are recorded
pub added-is : (greatest most : ℕ) (h s : Plain) → IsPlain greatest h → IsPlain most s → IsRestated s → max_of s ≤ reach h → IsMarkedBySamples h
    → after_records greatest h (classes_from (resolution s) 0 s.counts) ≡ after_add greatest h s
added-is greatest most h s p q restated room marked = elim (cases_eq s.total 0) [
  | inl e ↦ ap (after_records greatest h) (none-from (resolution s) 0 s.counts (q.empty e)) ∙ sym (merged-none greatest h s e)
  | inr n ↦ sym (merged-some greatest h s n ∙ ap (λ w. after_add_within greatest w s) (with_room-same h (max_of s) room) ∙ within (same_bins h s) refl ∙ top-nothing greatest most h s q restated room)
]
  where
    within : (b : Bool) → same_bins h s ≡ b → after_add_within greatest h s ≡ after_records greatest h (classes_from (resolution s) 0 s.counts ++ top_class (resolution s) s.top_mark)
    within false e = sym (taken-other greatest h s e)
    within true e =
        sym (taken-same greatest h s e) ∙ joined-is greatest h s restated marked
        ∙ fronts-are greatest most h s s.lower_mark p q (sym (same-bins h s e).0) room restated.lower_mark

-- ---- the marks of a sum

with-bins-total : (h : Plain) (v : ℕ) → (with_bins_for h v).total ≡ h.total
unfolding with_bins_for with_bins_to
with-bins-total h v = elim (cases_lt (reach h) v) [
  | inl lt ↦ ap (λ (w : Plain). w.total) (widened-more h v lt)
  | inr le ↦ ap (λ (w : Plain). w.total) (widened-same h v le)
]

recorded-total : (greatest : ℕ) (h : Plain) (v n : ℕ) → (after_record greatest h v n).total ≡ min (h.total + n) (2 ^ 64 - 1)
unfolding after_record after_add_to_bin
recorded-total greatest h v n = ap (λ t. min (t + n) (2 ^ 64 - 1)) (with-bins-total h v)

records-some : (greatest : ℕ) (h : Plain) (ts : List Times) → 0 < h.total → 0 < (after_records greatest h ts).total
records-some greatest h [] some = some
records-some greatest h (t ∷ ts) some = records-some greatest (after_record greatest h t.value t.times) ts (omega (arith, some, recorded-total greatest h t.value t.times))

classes-some : (greatest : ℕ) (g : Resolution) (h : Plain) (k : ℕ) (ns : List ℕ) (ts : List Times) → 0 < sum ns → 0 < (after_records greatest h (classes_from g k ns ++ ts)).total
classes-some greatest g h k [] ts some = absurd (omega (arith, some))
classes-some greatest g h k (zero ∷ ns) ts some = classes-some greatest g h (suc k) ns ts (omega (arith, some, sum_by-cons (λ x. x) 0 ns))
classes-some greatest g h k (suc n ∷ ns) ts some =
    records-some greatest (after_record greatest h (value_of g k) (suc n)) (classes_from g (suc k) ns ++ ts) (omega (arith, recorded-total greatest h (value_of g k) (suc n)))

joined-total : (greatest : ℕ) (h s : Plain) → 0 < s.total → 0 < (after_add_same_bins greatest h s).total
joined-total greatest h s some = elim (cases_eq h.total 0) [
  | inl e ↦ subst (λ (w : Plain). 0 < w.total) (joined-empty greatest h s e) some
  | inr n ↦ subst (λ (w : Plain). 0 < w.total) (joined-some greatest h s n) (omega (arith, n))
]

-- a sum has no marks without samples
pub marks-kept : (greatest most : ℕ) (h s : Plain) → IsPlain most s → IsMarkedBySamples h → IsMarkedBySamples (after_add greatest h s)
marks-kept greatest most h s q marked = elim (cases_eq s.total 0) [
  | inl e ↦ subst IsMarkedBySamples (sym (merged-none greatest h s e)) marked
  | inr n ↦ λ none. absurd (
      let w = with_room h (max_of s) in
      let some : 0 < (after_add_within greatest w s).total = within w (omega (arith, n)) (same_bins w s) refl in
      omega (arith, some, none, ap (λ (x : Plain). x.total) (merged-some greatest h s n)))
]
  where
    within : (w : Plain) → 0 < s.total → (b : Bool) → same_bins w s ≡ b → 0 < (after_add_within greatest w s).total
    within w some true e = subst (λ (x : Plain). 0 < x.total) (taken-same greatest w s e) (joined-total greatest w s some)
    within w some false e =
        let pos : 0 < sum s.counts = elim (cases_eq (sum s.counts) 0) [ inl z ↦ absurd (omega (arith, some, q.nothing z)) | inr n ↦ omega (arith, n) ] in
        subst (λ (x : Plain). 0 < x.total) (taken-other greatest w s e) (classes-some greatest (resolution s) w 0 s.counts (top_class (resolution s) s.top_mark) pos)

pub marks-reset : (h : Plain) → IsMarkedBySamples (after_reset h)
unfolding after_reset
marks-reset h = λ none. (refl, refl)
