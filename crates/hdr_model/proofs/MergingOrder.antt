-- The numbers of a sum of histograms of one unit and as many digits.
use Rattle.std.proofs.Common.{◌≡◌, ◌≢◌, ℕ, zero, suc, ◌+◌, ◌-◌, ◌*◌, ◌^◌, ◌<◌, ◌≤◌, Bool, true, false, cond, eqb, min, Option, Some, None, List, [], ◌∷◌, ◌++◌, length, get_or, set, sum, replicate, refl, sym, ap, subst, ◌∙◌, arith, inl, inr}
use Rattle.std.specs.List.{All}
use Rattle.std.proofs.lemmas.Bool.{cases_lt, cases_eq}
use Rattle.std.proofs.lemmas.List.{get_or_past, get_or-set_same, get_or-set_other, append-nil}
use Rattle.std.proofs.lemmas.List.Elements.{All-head, All-tail}
use Rattle.std.proofs.lemmas.List.Sums.{get_or-le-sum_by, sum_by-cons}
use Rattle.hdr_base.specs.Classes.{Resolution, bin_of, value_of, top_of}
use Rattle.hdr_base.proofs.ClassesFiner.{bin-value_of}
use Rattle.hdr_base.proofs.ClassesReach.{reach-fits}
use Rattle.hdr_counts.proofs.BlocksCapped.{capped-get}
use Rattle.hdr_model.specs.Plain.{Plain, IsPlain, resolution, reach, max_of}
use Rattle.hdr_model.specs.Recording.{after_add_to_bin, after_record, with_bins_to, Times, after_records, samples_of}
use Rattle.hdr_model.specs.Merging.{classes_from, top_class, same_bins, after_add_same_bins, after_add_within, with_room, after_add, lowest_values, highest_top}
use Rattle.hdr_model.specs.Samples.{in_class}
use Rattle.hdr_model.specs.Subtracting.{IsDifference}
use Rattle.hdr_model.proofs.PlainKept.{IsPlain-added, IsPlain-grown, resolution-digits, resolution-fits, resolution-recorded, room-in, room-of, zeros-behind}
use Rattle.hdr_model.proofs.RecordingStands.{in_class-same, in_class-other}
use Rattle.hdr_model.proofs.MergingKeeps.{max-none, recorded-inside, reach-recorded, joined-empty, joined-some, same-bins, with_room-same, with_room-more, with_room-reach, taken-same, taken-other, merged-none, merged-some, eqb-yes, eqb-no, IsPlain-taken, IsPlain-summed}
use Rattle.hdr_model.proofs.MergingStands.{weigh, spread-weigh, spread-append, spread-top, in_class-append, resolution-with_room, classes-inside}
use Rattle.hdr_model.proofs.RecordingClears.{max-marked}
use Rattle.hdr_model.proofs.MergingCorrects.{bin-of-top}
use Rattle.hdr_model.proofs.MergingCopies.{highest-in}

-- ---- the lowest values of a histogram's classes, in classes of the same unit and digits

own : Resolution → ℕ → ℕ → ℕ
own g j i = cond (eqb (bin_of g (value_of g i)) j) 1 0

own-is : (g : Resolution) (i j : ℕ) → 0 < g.digits → i ≡ j → own g j i ≡ 1
unfolding own
own-is g i j m e = ap (λ b. cond b 1 0) (eqb-yes (bin_of g (value_of g i)) j (bin-value_of g i m ∙ e))

own-not : (g : Resolution) (i j : ℕ) → 0 < g.digits → i ≢ j → own g j i ≡ 0
unfolding own
own-not g i j m n = ap (λ b. cond b 1 0) (eqb-no (bin_of g (value_of g i)) j (λ e. n (sym (bin-value_of g i m) ∙ e)))

own-later : (g : Resolution) (j k : ℕ) (ns : List ℕ) → 0 < g.digits → j < k → weigh (own g j) k ns ≡ 0
unfolding weigh
own-later g j k [] m lt = refl
own-later g j k (n ∷ ns) m lt =
    let none = own-not g k j m (λ e. omega arith) in
    ap (λ x. n * x + weigh (own g j) (suc k) ns) none ∙ (let e : n * 0 + weigh (own g j) (suc k) ns ≡ weigh (own g j) (suc k) ns = omega arith in e)
    ∙ own-later g j (suc k) ns m (omega arith)

own-at : (g : Resolution) (j k : ℕ) (ns : List ℕ) → 0 < g.digits → weigh (own g (k + j)) k ns ≡ get_or ns j 0
unfolding weigh
own-at g j k [] m = (let none : (xs : List ℕ) → length xs ≤ j → 0 ≡ get_or xs j 0 = λ xs le. sym (get_or_past xs j 0 le) in none [] (omega arith))
own-at g zero k (n ∷ ns) m =
    let here : own g (k + 0) k ≡ 1 = own-is g k (k + 0) m (omega arith) in
    let rest : weigh (own g (k + 0)) (suc k) ns ≡ 0 = own-later g (k + 0) (suc k) ns m (omega arith) in
    ap (λ x. n * x + weigh (own g (k + 0)) (suc k) ns) here ∙ ap (λ x. n * 1 + x) rest ∙ (let e : n * 1 + 0 ≡ n = omega arith in e)
own-at g (suc j) k (n ∷ ns) m =
    let here : own g (k + suc j) k ≡ 0 = own-not g k (k + suc j) m (λ e. omega arith) in
    ap (λ x. n * x + weigh (own g (k + suc j)) (suc k) ns) here ∙ (let e : n * 0 + weigh (own g (k + suc j)) (suc k) ns ≡ weigh (own g (k + suc j)) (suc k) ns = omega arith in e)
    ∙ ap (λ i. weigh (own g i) (suc k) ns) (let e : k + suc j ≡ suc k + j = omega arith in e) ∙ own-at g j (suc k) ns m

pub own-class : (g : Resolution) (j : ℕ) (ns : List ℕ) → 0 < g.digits → in_class g j (samples_of (classes_from g 0 ns)) ≡ get_or ns j 0
unfolding own
own-class g j ns m =
    spread-weigh (λ x. cond (eqb (bin_of g x) j) 1 0) g 0 ns
    ∙ ap (λ i. weigh (λ k. cond (eqb (bin_of g (value_of g k)) i) 1 0) 0 ns) (let e : j ≡ 0 + j = omega arith in e) ∙ own-at g j 0 ns m

-- ---- numbers after values were recorded

pub number-fits : (greatest : ℕ) (h : Plain) (i : ℕ) → IsPlain greatest h → get_or h.counts i 0 ≤ greatest
number-fits greatest h i p = elim (cases_lt i (length h.counts)) [
  | inl lt ↦ p.numbers_fit i 0 lt
  | inr ge ↦ omega (arith, get_or_past h.counts i 0 ge)
]

number-added : (greatest : ℕ) (h : Plain) (v n i : ℕ) → IsPlain greatest h → bin_of (resolution h) v < length h.counts
    → get_or (after_add_to_bin greatest h (bin_of (resolution h) v) n).counts i 0 ≡ min (get_or h.counts i 0 + in_class (resolution h) i (replicate n v)) greatest
unfolding after_add_to_bin
number-added greatest h v n i p room =
    let b = bin_of (resolution h) v in
    let put = min (get_or h.counts b 0 + n) greatest in
    elim (cases_eq b i) [
      | inl e ↦ (
          let in_all : in_class (resolution h) b (replicate n v) ≡ n = omega (arith, in_class-append (resolution h) b [] (replicate n v), in_class-same (resolution h) v n []) in
          subst (λ j. get_or (set h.counts b put) j 0 ≡ min (get_or h.counts j 0 + in_class (resolution h) j (replicate n v)) greatest) e
          (get_or-set_same h.counts b put 0 room ∙ ap (λ k. min (get_or h.counts b 0 + k) greatest) (sym in_all))
          )
      | inr n_ ↦ (
          let none : in_class (resolution h) i (replicate n v) ≡ 0 = omega (arith, in_class-append (resolution h) i [] (replicate n v), in_class-other (resolution h) i v n [] n_) in
          get_or-set_other h.counts b i put 0 (λ e. n_ (sym e)) ∙ (let e : get_or h.counts i 0 ≡ min (get_or h.counts i 0 + in_class (resolution h) i (replicate n v)) greatest = omega (arith, none, number-fits greatest h i p) in e)
          )
    ]

pub IsPlain-inside : (greatest : ℕ) (h : Plain) (v n : ℕ) → 1 ≤ greatest → IsPlain greatest h → v ≤ reach h → IsPlain greatest (after_record greatest h v n)
IsPlain-inside greatest h v n one p le =
    subst (λ x. IsPlain greatest x) (recorded-inside greatest h v n le) (IsPlain-added greatest h (bin_of (resolution h) v) n one (room-in greatest h v p le) p)

tail-within : (greatest : ℕ) (h : Plain) (t : Times) (ts : List Times) → All (λ (t : Times). t.value ≤ reach h) (t ∷ ts) → All (λ (u : Times). u.value ≤ reach (after_record greatest h t.value t.times)) ts
tail-within greatest h t ts a =
    subst (λ r. All (λ (u : Times). u.value ≤ r) ts) (sym (reach-recorded greatest h t.value t.times (All-head (λ (t : Times). t.value ≤ reach h) t ts a)))
    (All-tail (λ (t : Times). t.value ≤ reach h) t ts a)

pub IsPlain-each : (greatest : ℕ) (h : Plain) (ts : List Times) → 1 ≤ greatest → IsPlain greatest h → All (λ (t : Times). t.value ≤ reach h) ts → IsPlain greatest (after_records greatest h ts)
IsPlain-each greatest h [] one p a = p
IsPlain-each greatest h (t ∷ ts) one p a =
    IsPlain-each greatest (after_record greatest h t.value t.times) ts one
    (IsPlain-inside greatest h t.value t.times one p (All-head (λ (t : Times). t.value ≤ reach h) t ts a)) (tail-within greatest h t ts a)

number-each : (greatest : ℕ) (h : Plain) (ts : List Times) (i : ℕ) → 1 ≤ greatest → IsPlain greatest h → All (λ (t : Times). t.value ≤ reach h) ts
    → get_or (after_records greatest h ts).counts i 0 ≡ min (get_or h.counts i 0 + in_class (resolution h) i (samples_of ts)) greatest
number-each greatest h [] i one p a = (let e : get_or h.counts i 0 ≡ min (get_or h.counts i 0 + 0) greatest = omega (arith, number-fits greatest h i p) in e)
number-each greatest h (t ∷ ts) i one p a =
    let v = t.value in
    let n = t.times in
    let w = after_record greatest h v n in
    let le : v ≤ reach h = All-head (λ (t : Times). t.value ≤ reach h) t ts a in
    let rest = number-each greatest w ts i one (IsPlain-inside greatest h v n one p le) (tail-within greatest h t ts a) in
    let first : get_or w.counts i 0 ≡ min (get_or h.counts i 0 + in_class (resolution h) i (replicate n v)) greatest =
    ap (λ (k : Plain). get_or k.counts i 0) (sym (recorded-inside greatest h v n le)) ∙ number-added greatest h v n i p (room-in greatest h v p le) in
    let same : in_class (resolution w) i (samples_of ts) ≡ in_class (resolution h) i (samples_of ts) = ap (λ g. in_class g i (samples_of ts)) (resolution-recorded greatest h v n) in
    omega (arith, rest, first, same, in_class-append (resolution h) i (replicate n v) (samples_of ts))

-- ---- a sum

pub max-in-reach : (greatest : ℕ) (h : Plain) → IsPlain greatest h → max_of h ≤ reach h
max-in-reach greatest h p = go h.top_mark refl
  where
    go : (mark : Option ℕ) → h.top_mark ≡ mark → max_of h ≤ reach h
    go None e = omega (arith, max-none h (λ i f. some-none i (sym f ∙ e)))
      where
        some-none : (i : ℕ) → Some i ≡ None → ⊥
        some-none i e = cc
    go (Some i) e =
        let m = resolution-digits greatest h p in
        let top = top_of (resolution h) (value_of (resolution h) i) in
        let at : bin_of (resolution h) top ≡ i = bin-of-top (resolution h) (value_of (resolution h) i) m ∙ bin-value_of (resolution h) i m in
        let inside : i < length h.counts = rw e at p.top_in_bins in
        omega (arith, max-marked h i e, room-of greatest h top p (omega (arith, at, inside)))

pub max-small : (greatest : ℕ) (h : Plain) → IsPlain greatest h → max_of h < 2 ^ 64
unfolding reach
max-small greatest h p = omega (arith, max-in-reach greatest h p, reach-fits (resolution h) h.high p.high_fits (resolution-fits greatest h p))

pub highest-small : (greatest : ℕ) (h : Plain) → IsPlain greatest h → highest_top h < 2 ^ 64
unfolding reach
highest-small greatest h p = omega (arith, highest-in greatest h p, reach-fits (resolution h) h.high p.high_fits (resolution-fits greatest h p))

pub IsPlain-room : (greatest : ℕ) (h : Plain) (x : ℕ) → x < 2 ^ 64 → IsPlain greatest h → IsPlain greatest (with_room h x)
IsPlain-room greatest h x small p = elim (cases_lt (reach h) x) [
  | inl lt ↦ rw (with_room-more h x lt) (IsPlain-grown greatest h x p small lt)
  | inr le ↦ rw (with_room-same h x le) p
]

number-room : (h : Plain) (x i : ℕ) → get_or (with_room h x).counts i 0 ≡ get_or h.counts i 0
unfolding with_bins_to
number-room h x i = elim (cases_lt (reach h) x) [
  | inl lt ↦ rw (with_room-more h x lt) (zeros-behind h.counts _ i)
  | inr le ↦ rw (with_room-same h x le) refl
]

number-joined : (greatest : ℕ) (h s : Plain) (i : ℕ) → length h.counts ≡ length s.counts → get_or (after_add_same_bins greatest h s).counts i 0 ≡ min (get_or h.counts i 0 + get_or s.counts i 0) greatest
unfolding after_add_same_bins
number-joined greatest h s i same = capped-get greatest h.counts s.counts i same

module _ (greatest : ℕ) (h s : Plain) (one : 1 ≤ greatest) (p : IsPlain greatest h) (q : IsPlain greatest s) where
  IsPlain-joined : length h.counts ≡ length s.counts → IsPlain greatest (after_add_same_bins greatest h s)
  IsPlain-joined same = elim (cases_lt 0 h.total) [
    | inl pos ↦ subst (λ (w : Plain). IsPlain greatest w) (joined-some greatest h s (λ e. omega arith)) (IsPlain-summed greatest greatest h s one same p q (λ e. omega arith))
    | inr none ↦ subst (λ (w : Plain). IsPlain greatest w) (joined-empty greatest h s (omega arith)) (IsPlain-taken greatest greatest h s one same p q (omega arith))
  ]

  taken-facts : max_of s ≤ reach h → resolution h ≡ resolution s
      → IsPlain greatest (after_add_within greatest h s) × ((i : ℕ) → get_or (after_add_within greatest h s).counts i 0 ≡ min (get_or h.counts i 0 + get_or s.counts i 0) greatest)
  taken-facts room same = go (same_bins h s) refl
    where
      go : (b : Bool) → same_bins h s ≡ b → IsPlain greatest (after_add_within greatest h s) × ((i : ℕ) → get_or (after_add_within greatest h s).counts i 0 ≡ min (get_or h.counts i 0 + get_or s.counts i 0) greatest)
      go true e =
          let bins = (same-bins h s e).1 in
          subst (λ (w : Plain). IsPlain greatest w × ((i : ℕ) → get_or w.counts i 0 ≡ min (get_or h.counts i 0 + get_or s.counts i 0) greatest)) (taken-same greatest h s e)
          (IsPlain-joined bins, λ i. number-joined greatest h s i bins)
      go false e =
          let ts = classes_from (resolution s) 0 s.counts ++ top_class (resolution s) s.top_mark in
          let values = classes-inside greatest s (reach h) q room in
          let all : samples_of ts ≡ samples_of (classes_from (resolution s) 0 s.counts) =
          spread-append (classes_from (resolution s) 0 s.counts) (top_class (resolution s) s.top_mark) ∙ ap (λ l. samples_of (classes_from (resolution s) 0 s.counts) ++ l) (spread-top (resolution s) s.top_mark)
          ∙ append-nil (samples_of (classes_from (resolution s) 0 s.counts)) in
          let own_number : (i : ℕ) → in_class (resolution h) i (samples_of ts) ≡ get_or s.counts i 0 = λ i.
          ap (λ l. in_class (resolution h) i l) all ∙ ap (λ g. in_class g i (samples_of (classes_from (resolution s) 0 s.counts))) same ∙ own-class (resolution s) i s.counts (resolution-digits greatest s q) in
          subst (λ (w : Plain). IsPlain greatest w × ((i : ℕ) → get_or w.counts i 0 ≡ min (get_or h.counts i 0 + get_or s.counts i 0) greatest)) (taken-other greatest h s e)
          (IsPlain-each greatest h ts one p values, λ i. number-each greatest h ts i one p values ∙ ap (λ k. min (get_or h.counts i 0 + k) greatest) (own_number i))

pub merged-facts : (greatest : ℕ) (h s : Plain) → 1 ≤ greatest → IsPlain greatest h → IsPlain greatest s → resolution h ≡ resolution s
    → IsPlain greatest (after_add greatest h s) × ((i : ℕ) → get_or (after_add greatest h s).counts i 0 ≡ min (get_or h.counts i 0 + get_or s.counts i 0) greatest)
merged-facts greatest h s one p q same = elim (cases_lt 0 s.total) [
  | inl pos ↦ (
      let m = max_of s in
      let w = with_room h m in
      let facts = taken-facts greatest w s one (IsPlain-room greatest h m (max-small greatest s q) p) q (with_room-reach h m) (resolution-with_room h m ∙ same) in
      subst (λ (k : Plain). IsPlain greatest k × ((i : ℕ) → get_or k.counts i 0 ≡ min (get_or h.counts i 0 + get_or s.counts i 0) greatest)) (sym (merged-some greatest h s (λ e. omega arith)))
      (facts.0, λ i. facts.1 i ∙ ap (λ k. min (k + get_or s.counts i 0) greatest) (number-room h m i))
      )
  | inr none ↦ (
      let zero_sum : sum s.counts ≡ 0 = q.empty (omega arith) in
      let nothing : (i : ℕ) → get_or s.counts i 0 ≡ 0 = λ i. elim (cases_lt i (length s.counts)) [
        | inl lt ↦ omega (arith, get_or-le-sum_by (λ x. x) s.counts i 0 lt)
        | inr ge ↦ get_or_past s.counts i 0 ge
      ] in
      subst (λ (k : Plain). IsPlain greatest k × ((i : ℕ) → get_or k.counts i 0 ≡ min (get_or h.counts i 0 + get_or s.counts i 0) greatest)) (sym (merged-none greatest h s (omega arith)))
      (p, λ i. (let e : get_or h.counts i 0 ≡ min (get_or h.counts i 0 + get_or s.counts i 0) greatest = omega (arith, nothing i, number-fits greatest h i p) in e))
      )
]

pub commutes : (greatest : ℕ) (h s : Plain) → 1 ≤ greatest → IsPlain greatest h → IsPlain greatest s → resolution h ≡ resolution s
    → (i : ℕ) → get_or (after_add greatest h s).counts i 0 ≡ get_or (after_add greatest s h).counts i 0
commutes greatest h s one p q same i =
    omega (arith, (merged-facts greatest h s one p q same).1 i, (merged-facts greatest s h one q p (sym same)).1 i)

pub associates : (greatest : ℕ) (h s t : Plain) → 1 ≤ greatest → IsPlain greatest h → IsPlain greatest s → IsPlain greatest t → resolution h ≡ resolution s → resolution s ≡ resolution t
    → resolution (after_add greatest h s) ≡ resolution h → resolution (after_add greatest s t) ≡ resolution s
    → (i : ℕ) → get_or (after_add greatest (after_add greatest h s) t).counts i 0 ≡ get_or (after_add greatest h (after_add greatest s t)).counts i 0
associates greatest h s t one p q r hs st left right i =
    let a = merged-facts greatest h s one p q hs in
    let b = merged-facts greatest s t one q r st in
    let c = merged-facts greatest (after_add greatest h s) t one a.0 r (left ∙ hs ∙ st) in
    let d = merged-facts greatest h (after_add greatest s t) one p b.0 (hs ∙ sym right) in
    omega (arith, a.1 i, b.1 i, c.1 i, d.1 i)

pub undoes : (greatest : ℕ) (h s d : Plain) → 1 ≤ greatest → IsPlain greatest h → IsPlain greatest s → resolution h ≡ resolution s → resolution (after_add greatest h s) ≡ resolution h
    → ((i : ℕ) → get_or h.counts i 0 + get_or s.counts i 0 ≤ greatest) → IsDifference (after_add greatest h s) s d → (i : ℕ) → get_or d.counts i 0 ≡ get_or h.counts i 0
undoes greatest h s d one p q same kept free x i =
    let own_number : in_class (resolution (after_add greatest h s)) i (lowest_values s) ≡ get_or s.counts i 0 =
    ap (λ g. in_class g i (lowest_values s)) (kept ∙ same) ∙ own-class (resolution s) i s.counts (resolution-digits greatest s q) in
    omega (arith, x.numbers i, own_number, (merged-facts greatest h s one p q same).1 i, free i)

pub undoes-other : (greatest : ℕ) (h s d : Plain) → 1 ≤ greatest → IsPlain greatest h → IsPlain greatest s → resolution h ≡ resolution s → resolution (after_add greatest h s) ≡ resolution h
    → ((i : ℕ) → get_or h.counts i 0 + get_or s.counts i 0 ≤ greatest) → IsDifference (after_add greatest h s) h d → (i : ℕ) → get_or d.counts i 0 ≡ get_or s.counts i 0
undoes-other greatest h s d one p q same kept free x i =
    let own_number : in_class (resolution (after_add greatest h s)) i (lowest_values h) ≡ get_or h.counts i 0 =
    ap (λ g. in_class g i (lowest_values h)) kept ∙ own-class (resolution h) i h.counts (resolution-digits greatest h p) in
    omega (arith, x.numbers i, own_number, (merged-facts greatest h s one p q same).1 i, free i)

-- lists with the same numbers have one sum
sums-alike : (xs ys : List ℕ) → ((i : ℕ) → get_or xs i 0 ≡ get_or ys i 0) → sum xs ≡ sum ys
sums-alike [] [] same = refl
sums-alike [] (y ∷ ys) same = omega (arith, same 0, sum_by-cons (λ (n : ℕ). n) y ys, sums-alike [] ys (λ i. same (suc i)))
sums-alike (x ∷ xs) [] same = omega (arith, same 0, sum_by-cons (λ (n : ℕ). n) x xs, sums-alike xs [] (λ i. same (suc i)))
sums-alike (x ∷ xs) (y ∷ ys) same =
    omega (arith, same 0, sum_by-cons (λ (n : ℕ). n) x xs, sum_by-cons (λ (n : ℕ). n) y ys, sums-alike xs ys (λ i. same (suc i)))

pub undone-total : (h d : Plain) → d.total ≡ min (sum d.counts) (2 ^ 64 - 1) → ((i : ℕ) → get_or d.counts i 0 ≡ get_or h.counts i 0) → h.total < 2 ^ 64
    → h.total ≡ sum h.counts → d.total ≡ h.total
undone-total h d is same fits exact = omega (arith, is, sums-alike d.counts h.counts same, fits, exact)
