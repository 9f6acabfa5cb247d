-- What a histogram stands for after another was added.
use Rattle.std.proofs.Common.{◌≡◌, ◌≢◌, ℕ, zero, suc, ◌+◌, ◌*◌, ◌^◌, ◌<◌, ◌≤◌, Bool, true, false, cond, eqb, leb, Option, None, Some, List, [], ◌∷◌, ◌++◌, length, get_or, take, sum, sum_by, replicate, refl, sym, ap, subst, ◌∙◌, arith, inl, inr}
use Rattle.std.specs.List.{All}
use Rattle.std.proofs.lemmas.Bool.Decides.{nat_tests}
use Rattle.std.proofs.lemmas.Bool.{cases_lt}
use Rattle.std.proofs.lemmas.List.{append_assoc, append-nil, length-append, take_all}
use Rattle.std.proofs.lemmas.List.Sums.{sum_by-cons, sum_by-append}
use Rattle.std.proofs.lemmas.List.Folds.{sum_by-replicate}
use Rattle.std.proofs.lemmas.List.Elements.{All-cons, All-head, All-tail, All-append, All-weaker}
use Rattle.hdr_base.specs.Classes.{Resolution, bin_of, value_of, IsFiner, reach_of}
use Rattle.hdr_base.proofs.ClassesFiner.{bin-value_of, finer-bin}
use Rattle.hdr_model.specs.Plain.{Plain, IsPlain, resolution, reach, max_of}
use Rattle.hdr_model.specs.Recording.{after_add_to_bin, after_record, with_bins_to, with_bins_for, high_with, Times, after_records, samples_of}
use Rattle.hdr_model.specs.Samples.{in_class, StandsFor, Fits}
use Rattle.hdr_model.specs.Merging.{classes_from, top_class, same_bins, after_add_same_bins, after_add_within, with_room, after_add}
use Rattle.hdr_counts.specs.Blocks.{capped_sums}
use Rattle.hdr_model.proofs.PlainKept.{IsPlain-added, IsPlain-grown, resolution-digits, resolution-recorded, room-in, leb-yes, leb-no, resolution-fits}
use Rattle.hdr_base.proofs.ClassesReach.{reach-fits}
use Rattle.hdr_model.proofs.RecordingStands.{StandsFor-recorded, StandsFor-grown}
use Rattle.hdr_model.proofs.QuantilesOrder.{in_first-all, running}
use Rattle.hdr_model.proofs.MergingKeeps.{number-le-max, recorded-inside, reach-recorded, joined-empty, joined-some, same-bins, with_room-same, with_room-more, with_room-reach, taken-same, taken-other, value-le-max, merged-none, merged-some}
use Rattle.hdr_counts.proofs.BlocksCapped.{capped-get, capped-length}

pub spread-append : (ts us : List Times) → samples_of (ts ++ us) ≡ samples_of ts ++ samples_of us
spread-append [] us = refl
spread-append (t ∷ ts) us = ap (λ l. replicate t.times t.value ++ l) (spread-append ts us) ∙ sym (append_assoc (replicate t.times t.value) (samples_of ts) (samples_of us))

-- ---- sums over the samples of classes

-- what the classes from k on weigh, where class i weighs w i
unfoldable pub weigh : (ℕ → ℕ) → ℕ → List ℕ → ℕ
weigh w k [] = 0
weigh w k (n ∷ ns) = n * w k + weigh w (suc k) ns

pub spread-weigh : (f : ℕ → ℕ) (g : Resolution) (k : ℕ) (ns : List ℕ) → sum_by f (samples_of (classes_from g k ns)) ≡ weigh (λ i. f (value_of g i)) k ns
unfolding weigh
spread-weigh f g k [] = refl
spread-weigh f g k (zero ∷ ns) = spread-weigh f g (suc k) ns ∙ (let e : weigh (λ i. f (value_of g i)) (suc k) ns ≡ 0 * f (value_of g k) + weigh (λ i. f (value_of g i)) (suc k) ns = omega arith in e)
spread-weigh f g k (suc n ∷ ns) =
    sum_by-append f (replicate (suc n) (value_of g k)) (samples_of (classes_from g (suc k) ns))
    ∙ ap (λ x. x + sum_by f (samples_of (classes_from g (suc k) ns))) (sum_by-replicate f (suc n) (value_of g k))
    ∙ ap (λ x. suc n * f (value_of g k) + x) (spread-weigh f g (suc k) ns)

-- a sample's weight if its class is k or later
from-class : (ℕ → ℕ) → Resolution → ℕ → ℕ → ℕ
from-class w g k x = cond (leb k (bin_of g x)) (w (bin_of g x)) 0

one-class : (w : ℕ → ℕ) (b k : ℕ) → cond (leb k b) (w b) 0 ≡ cond (eqb b k) 1 0 * w k + cond (leb (suc k) b) (w b) 0
one-class w b k =
    elim (cases_lt k b) [
      | inl lt ↦ rw (leb-yes k b (omega arith), leb-yes (suc k) b (omega arith), eqb-not b k (λ e. omega arith)) (omega arith)
      | inr ge ↦ elim (cases_lt b k) [
        | inl lt ↦ rw (leb-no k b lt, leb-no (suc k) b (omega arith), eqb-not b k (λ e. omega arith)) (omega arith)
        | inr le ↦ (
            let e : b ≡ k = omega arith in
            rw (leb-yes k b le, leb-no (suc k) b (omega arith), eqb-is b k e, e) (omega arith)
            )
      ]
    ]
  where
    eqb-not : (a b : ℕ) → a ≢ b → eqb a b ≡ false
    eqb-not a b h = grind (arith, nat_tests)

    eqb-is : (a b : ℕ) → a ≡ b → eqb a b ≡ true
    eqb-is a b h = grind (arith, nat_tests)

next-class : (w : ℕ → ℕ) (g : Resolution) (k : ℕ) (L : List ℕ) → sum_by (from-class w g k) L ≡ in_class g k L * w k + sum_by (from-class w g (suc k)) L
unfolding from-class
next-class w g k [] = (let e : 0 ≡ 0 * w k + 0 = omega arith in e)
next-class w g k (x ∷ L) =
    let c = cond (eqb (bin_of g x) k) 1 0 in
    let head = one-class w (bin_of g x) k in
    let count : in_class g k (x ∷ L) ≡ c + in_class g k L = sum_by-cons (λ s. cond (eqb (bin_of g s) k) 1 0) x L in
    let product : (c + in_class g k L) * w k ≡ c * w k + in_class g k L * w k = omega arith in
    omega (arith, sum_by-cons (from-class w g k) x L, sum_by-cons (from-class w g (suc k)) x L, head, next-class w g k L, ap (λ n. n * w k) count, product)

no-class : (w : ℕ → ℕ) (g : Resolution) (k : ℕ) (L : List ℕ) → All (λ x. bin_of g x < k) L → sum_by (from-class w g k) L ≡ 0
unfolding from-class
no-class w g k [] h = refl
no-class w g k (x ∷ L) h =
    let none : from-class w g k x ≡ 0 = ap (λ (b : Bool). cond b (w (bin_of g x)) 0) (leb-no k (bin_of g x) (All-head (λ x. bin_of g x < k) x L h)) in
    omega (arith, sum_by-cons (from-class w g k) x L, none, no-class w g k L (All-tail (λ x. bin_of g x < k) x L h))

weigh-samples : (w : ℕ → ℕ) (g : Resolution) (L : List ℕ) (k : ℕ) (ns : List ℕ) → ((i : ℕ) → i < length ns → get_or ns i 0 ≡ in_class g (k + i) L) → All (λ x. bin_of g x < k + length ns) L
    → weigh w k ns ≡ sum_by (from-class w g k) L
unfolding weigh
weigh-samples w g L k [] each within = sym (no-class w g k L (All-weaker (λ x. bin_of g x < k + 0) (λ x. bin_of g x < k) (λ x h. omega arith) L within))
weigh-samples w g L k (n ∷ ns) each within =
    let first : n ≡ in_class g k L = each 0 (omega arith) ∙ ap (λ i. in_class g i L) (let e : k + 0 ≡ k = omega arith in e) in
    let rest = weigh-samples w g L (suc k) ns
    (λ i lt. each (suc i) (omega arith) ∙ ap (λ j. in_class g j L) (let e : k + suc i ≡ suc k + i = omega arith in e))
    (All-weaker (λ x. bin_of g x < k + suc (length ns)) (λ x. bin_of g x < suc k + length ns) (λ x h. omega arith) L within) in
    ap (λ m. m * w k + weigh w (suc k) ns) first ∙ ap (λ m. in_class g k L * w k + m) rest ∙ sym (next-class w g k L)

pub sum_by-same : (f h : ℕ → ℕ) (L : List ℕ) → ((x : ℕ) → f x ≡ h x) → sum_by f L ≡ sum_by h L
sum_by-same f h [] e = refl
sum_by-same f h (x ∷ L) e = omega (arith, sum_by-cons f x L, sum_by-cons h x L, e x, sum_by-same f h L e)

module _ (greatest : ℕ) (s : Plain) (L : List ℕ) (q : IsPlain greatest s) (stands : StandsFor s L) where
  in-bins : All (λ x. bin_of (resolution s) x < length s.counts) L
  in-bins = All-weaker (λ x. x ≤ reach s) (λ x. bin_of (resolution s) x < length s.counts) (λ x le. room-in greatest s x q le) L stands.within

  -- what the numbers of the classes weigh is what the samples weigh by their classes
  pub numbers-weigh : (w : ℕ → ℕ) → weigh w 0 s.counts ≡ sum_by (λ x. w (bin_of (resolution s) x)) L
  unfolding from-class
  numbers-weigh w =
      weigh-samples w (resolution s) L 0 s.counts (λ i lt. stands.numbers i lt ∙ ap (λ j. in_class (resolution s) j L) (let e : i ≡ 0 + i = omega arith in e))
      (All-weaker (λ x. bin_of (resolution s) x < length s.counts) (λ x. bin_of (resolution s) x < 0 + length s.counts) (λ x h. omega arith) L in-bins)
      ∙ sum_by-same (from-class w (resolution s) 0) (λ x. w (bin_of (resolution s) x)) L
      (λ x. ap (λ (b : Bool). cond b (w (bin_of (resolution s) x)) 0) (leb-yes 0 (bin_of (resolution s) x) (omega arith)))

  -- the classes' lowest values, as often as their numbers say, sum to what the samples sum to
  pub spread-sum : (f : ℕ → ℕ) → ((x : ℕ) → f (value_of (resolution s) (bin_of (resolution s) x)) ≡ f x) → sum_by f (samples_of (classes_from (resolution s) 0 s.counts)) ≡ sum_by f L
  spread-sum f same =
      spread-weigh f (resolution s) 0 s.counts ∙ numbers-weigh (λ i. f (value_of (resolution s) i))
      ∙ sum_by-same (λ x. f (value_of (resolution s) (bin_of (resolution s) x))) f L same

  -- a coarser class holds as many of them as of the samples
  pub spread-class : (g : Resolution) (j : ℕ) → IsFiner (resolution s) g → 0 < g.digits → in_class g j (samples_of (classes_from (resolution s) 0 s.counts)) ≡ in_class g j L
  spread-class g j fine m =
      let f : ℕ → ℕ = λ x. cond (eqb (bin_of g x) j) 1 0 in
      let digits = resolution-digits greatest s q in
      spread-sum f (λ x. ap (λ b. cond (eqb b j) 1 0)
      (finer-bin (resolution s) g fine digits m (value_of (resolution s) (bin_of (resolution s) x)) x (bin-value_of (resolution s) (bin_of (resolution s) x) digits)))

  pub spread-length : length (samples_of (classes_from (resolution s) 0 s.counts)) ≡ length L
  spread-length = length-ones (samples_of (classes_from (resolution s) 0 s.counts)) ∙ spread-sum (λ x. 1) (λ x. refl) ∙ sym (length-ones L)
    where
      length-ones : (xs : List ℕ) → length xs ≡ sum_by (λ x. 1) xs
      length-ones [] = refl
      length-ones (x ∷ xs) = omega (arith, sum_by-cons (λ (x : ℕ). 1) x xs, length-ones xs)

  -- the numbers sum to how many samples there are
  pub numbers-sum : sum s.counts ≡ length L
  numbers-sum =
      let all = running s L (length s.counts) stands (omega arith) in
      let whole : take (length s.counts) s.counts ≡ s.counts = take_all (length s.counts) s.counts (omega arith) in
      sym (ap (λ (l : List ℕ). sum l) whole) ∙ all ∙ in_first-all (resolution s) (length s.counts) L in-bins

  -- no sample is past the greatest value
  pub samples-le-max : All (λ x. x ≤ max_of s) L
  samples-le-max = go L in-bins (λ i h. omega (arith, h))
    where
      go : (M : List ℕ) → All (λ x. bin_of (resolution s) x < length s.counts) M → ((i : ℕ) → 0 < in_class (resolution s) i M → 0 < in_class (resolution s) i L) → All (λ x. x ≤ max_of s) M
      go [] inside more = λ k d h. absurd (omega arith)
      go (x ∷ M) inside more =
          let b = bin_of (resolution s) x in
          let one : eqb b b ≡ true = grind (arith, nat_tests) in
          let head : 0 < in_class (resolution s) b (x ∷ M) = omega (arith, sum_by-cons (λ y. cond (eqb (bin_of (resolution s) y) b) 1 0) x M, ap {B = ℕ} (λ (c : Bool). cond c 1 0) one) in
          let pos : 0 < get_or s.counts b 0 = omega (arith, stands.numbers b (All-head (λ x. bin_of (resolution s) x < length s.counts) x M inside), more b head) in
          All-cons (λ x. x ≤ max_of s) x M (number-le-max greatest s b x q pos refl)
          (go M (All-tail (λ x. bin_of (resolution s) x < length s.counts) x M inside) (λ i h. more i (omega (arith, sum_by-cons (λ y. cond (eqb (bin_of (resolution s) y) i) 1 0) x M))))

-- ---- samples recorded one list after another

pub in_class-append : (g : Resolution) (i : ℕ) (A B : List ℕ) → in_class g i (A ++ B) ≡ in_class g i A + in_class g i B
in_class-append g i A B = sum_by-append (λ s. cond (eqb (bin_of g s) i) 1 0) A B

pub Fits-front : (greatest : ℕ) (g : Resolution) (A B : List ℕ) → Fits greatest g (A ++ B) → Fits greatest g A
Fits-front greatest g A B f = record {
  in_all = omega (arith, f.in_all, length-append A B);
  in_classes = λ i. omega (arith, f.in_classes i, in_class-append g i A B);
}

reach-small : (greatest : ℕ) (h : Plain) → IsPlain greatest h → reach h < 2 ^ 64
unfolding reach
reach-small greatest h p = reach-fits (resolution h) h.high p.high_fits (resolution-fits greatest h p)

pub resolution-each : (greatest : ℕ) (h : Plain) (ts : List Times) → resolution (after_records greatest h ts) ≡ resolution h
resolution-each greatest h [] = refl
resolution-each greatest h (t ∷ ts) = resolution-each greatest (after_record greatest h t.value t.times) ts ∙ resolution-recorded greatest h t.value t.times

within-same : (r k : ℕ) (ts : List Times) → r ≡ k → All (λ (t : Times). t.value ≤ r) ts → All (λ (t : Times). t.value ≤ k) ts
within-same r k ts e a = subst (λ x. All (λ (t : Times). t.value ≤ x) ts) e a

pub reach-each : (greatest : ℕ) (h : Plain) (ts : List Times) → All (λ (t : Times). t.value ≤ reach h) ts → reach (after_records greatest h ts) ≡ reach h
reach-each greatest h [] a = refl
reach-each greatest h (t ∷ ts) a =
    let same = reach-recorded greatest h t.value t.times (All-head (λ (t : Times). t.value ≤ reach h) t ts a) in
    reach-each greatest (after_record greatest h t.value t.times) ts (within-same (reach h) (reach (after_record greatest h t.value t.times)) ts (sym same) (All-tail (λ (t : Times). t.value ≤ reach h) t ts a)) ∙ same

pub StandsFor-each : (greatest : ℕ) (h : Plain) (ts : List Times) (S : List ℕ) → 1 ≤ greatest → IsPlain greatest h → All (λ (t : Times). t.value ≤ reach h) ts → StandsFor h S
    → Fits greatest (resolution h) (S ++ samples_of ts) → StandsFor (after_records greatest h ts) (S ++ samples_of ts)
StandsFor-each greatest h [] S one p a s fits = subst (λ l. StandsFor h l) (sym (append-nil S)) s
StandsFor-each greatest h (t ∷ ts) S one p a s fits =
    let v = t.value in
    let n = t.times in
    let w = after_record greatest h v n in
    let le : v ≤ reach h = All-head (λ (t : Times). t.value ≤ reach h) t ts a in
    let whole : (S ++ replicate n v) ++ samples_of ts ≡ S ++ (replicate n v ++ samples_of ts) = append_assoc S (replicate n v) (samples_of ts) in
    let fits_all : Fits greatest (resolution h) ((S ++ replicate n v) ++ samples_of ts) = subst (λ l. Fits greatest (resolution h) l) (sym whole) fits in
    let one_more = StandsFor-recorded greatest h v n S (omega (arith, le, reach-small greatest h p)) p s (Fits-front greatest (resolution h) (S ++ replicate n v) (samples_of ts) fits_all) in
    let plain : IsPlain greatest w = subst (λ x. IsPlain greatest x) (recorded-inside greatest h v n le) (IsPlain-added greatest h (bin_of (resolution h) v) n one (room-in greatest h v p le) p) in
    let same = reach-recorded greatest h v n le in
    subst (λ l. StandsFor (after_records greatest w ts) l) whole
    (StandsFor-each greatest w ts (S ++ replicate n v) one plain (within-same (reach h) (reach w) ts (sym same) (All-tail (λ (t : Times). t.value ≤ reach h) t ts a)) one_more
    (subst (λ (g : Resolution). Fits greatest g ((S ++ replicate n v) ++ samples_of ts)) (sym (resolution-recorded greatest h v n)) fits_all))

classes-within : (g : Resolution) (r k : ℕ) (ns : List ℕ) → ((i : ℕ) → 0 < get_or ns i 0 → value_of g (k + i) ≤ r) → All (λ (t : Times). t.value ≤ r) (classes_from g k ns)
classes-within g r k [] f = λ i d h. absurd (omega arith)
classes-within g r k (zero ∷ ns) f =
    classes-within g r (suc k) ns (λ i pos. subst (λ j. value_of g j ≤ r) (let e : k + suc i ≡ suc k + i = omega arith in e) (f (suc i) pos))
classes-within g r k (suc n ∷ ns) f =
    All-cons (λ (t : Times). t.value ≤ r) (record { value = value_of g k; times = suc n }) (classes_from g (suc k) ns)
    (subst (λ j. value_of g j ≤ r) (let e : k + 0 ≡ k = omega arith in e) (f 0 (omega arith)))
    (classes-within g r (suc k) ns (λ i pos. subst (λ j. value_of g j ≤ r) (let e : k + suc i ≡ suc k + i = omega arith in e) (f (suc i) pos)))

top-within : (g : Resolution) (r : ℕ) (mark : Option ℕ) → ((i : ℕ) → mark ≡ Some i → value_of g i ≤ r) → All (λ (t : Times). t.value ≤ r) (top_class g mark)
top-within g r None f = λ i d h. absurd (omega arith)
top-within g r (Some i) f = All-cons (λ (t : Times). t.value ≤ r) (record { value = value_of g i; times = 0 }) [] (f i refl) (λ i d h. absurd (omega arith))

pub spread-top : (g : Resolution) (mark : Option ℕ) → samples_of (top_class g mark) ≡ []
spread-top g None = refl
spread-top g (Some i) = refl

pub classes-inside : (greatest : ℕ) (s : Plain) (r : ℕ) → IsPlain greatest s → max_of s ≤ r → All (λ (t : Times). t.value ≤ r) (classes_from (resolution s) 0 s.counts ++ top_class (resolution s) s.top_mark)
classes-inside greatest s r q room = All-append (λ (t : Times). t.value ≤ r) (classes_from (resolution s) 0 s.counts) (top_class (resolution s) s.top_mark)
    (classes-within (resolution s) r 0 s.counts (λ i pos. subst (λ j. value_of (resolution s) j ≤ r) (let e : i ≡ 0 + i = omega arith in e)
    (let le : value_of (resolution s) i ≤ r = omega (arith, room, number-le-max greatest s i (value_of (resolution s) i) q pos (bin-value_of (resolution s) i (resolution-digits greatest s q))) in le)))
    (top-within (resolution s) r s.top_mark (λ i e. omega (arith, room, value-le-max s i e)))

pub StandsFor-swap : (w : Plain) (A B : List ℕ) → ((j : ℕ) → in_class (resolution w) j A ≡ in_class (resolution w) j B) → length A ≡ length B → All (λ x. x ≤ reach w) B → StandsFor w A → StandsFor w B
StandsFor-swap w A B classes len inside s = record { numbers = λ i lt. s.numbers i lt ∙ classes i; within = inside; total = s.total ∙ len }

module _ (greatest most : ℕ) (h s : Plain) (S L : List ℕ) (one : 1 ≤ greatest) (p : IsPlain greatest h) (q : IsPlain most s) (stands : StandsFor h S) (source : StandsFor s L)
    (room : max_of s ≤ reach h) (fits : Fits greatest (resolution h) (S ++ L)) where
  inside : All (λ x. x ≤ reach h) (S ++ L)
  inside = All-append (λ x. x ≤ reach h) S L stands.within (All-weaker (λ x. x ≤ max_of s) (λ x. x ≤ reach h) (λ x le. omega (arith, room)) L (samples-le-max most s L q source))

  -- class by class
  pub StandsFor-classes : IsFiner (resolution s) (resolution h) → StandsFor (after_records greatest h (classes_from (resolution s) 0 s.counts ++ top_class (resolution s) s.top_mark)) (S ++ L)
  StandsFor-classes fine =
      let g = resolution h in
      let classes = classes_from (resolution s) 0 s.counts in
      let top = top_class (resolution s) s.top_mark in
      let P = samples_of classes in
      let digits = resolution-digits most s q in
      let spread_is : samples_of (classes ++ top) ≡ P = spread-append classes top ∙ ap (λ l. P ++ l) (spread-top (resolution s) s.top_mark) ∙ append-nil P in
      let same : (j : ℕ) → in_class g j (S ++ P) ≡ in_class g j (S ++ L) =
      λ j. omega (arith, in_class-append g j S P, in_class-append g j S L, spread-class most s L q source g j fine (resolution-digits greatest h p)) in
      let len : length (S ++ P) ≡ length (S ++ L) = omega (arith, length-append S P, length-append S L, spread-length most s L q source) in
      let fits_P : Fits greatest g (S ++ P) = record { in_all = omega (arith, len, fits.in_all); in_classes = λ j. omega (arith, same j, fits.in_classes j) } in
      let values : All (λ (t : Times). t.value ≤ reach h) (classes ++ top) = classes-inside most s (reach h) q room in
      let w = after_records greatest h (classes ++ top) in
      let each : StandsFor w (S ++ P) = subst (λ l. StandsFor w (S ++ l)) spread_is
      (StandsFor-each greatest h (classes ++ top) S one p values stands (subst (λ l. Fits greatest g (S ++ l)) (sym spread_is) fits_P)) in
      StandsFor-swap w (S ++ P) (S ++ L)
      (λ j. subst (λ (k : Resolution). in_class k j (S ++ P) ≡ in_class k j (S ++ L)) (sym (resolution-each greatest h (classes ++ top))) (same j))
      len
      (subst (λ r. All (λ x. x ≤ r) (S ++ L)) (sym (reach-each greatest h (classes ++ top) values)) inside)
      each

  -- element by element
  pub StandsFor-joined : (resolution h ≡ resolution s) → length h.counts ≡ length s.counts → StandsFor (after_add_same_bins greatest h s) (S ++ L)
  unfolding reach
  StandsFor-joined same_resolution same =
      let g = resolution h in
      let numbers : (i : ℕ) → i < length (capped_sums greatest h.counts s.counts) → get_or (capped_sums greatest h.counts s.counts) i 0 ≡ in_class g i (S ++ L) =
      λ i lt.
      let len = capped-length greatest h.counts s.counts in
      let other : get_or s.counts i 0 ≡ in_class g i L = source.numbers i (omega (arith, same, len)) ∙ ap (λ (k : Resolution). in_class k i L) (sym same_resolution) in
      omega (arith, capped-get greatest h.counts s.counts i same, stands.numbers i (omega (arith, len)), other, in_class-append g i S L, fits.in_classes i) in
      let count = length-append S L in
      elim (cases_lt 0 h.total) [
        | inl pos ↦ subst (λ w. StandsFor w (S ++ L)) (joined-some greatest h s (λ e. omega arith)) (record {
          numbers = numbers;
          within = inside;
          total = omega (arith, count, fits.in_all, stands.total, numbers-sum most s L q source);
        })
        | inr none ↦ subst (λ w. StandsFor w (S ++ L)) (joined-empty greatest h s (omega arith)) (record {
          numbers = numbers;
          within = inside;
          total = omega (arith, count, stands.total, source.total);
        })
      ]

  pub StandsFor-taken : IsFiner (resolution s) (resolution h) → StandsFor (after_add_within greatest h s) (S ++ L)
  StandsFor-taken fine =
      let step : (b : Bool) → same_bins h s ≡ b → StandsFor (after_add_within greatest h s) (S ++ L) =
      λ b. elim b as (λ b. same_bins h s ≡ b → StandsFor (after_add_within greatest h s) (S ++ L)) [
        | true ↦ λ e. (let both = same-bins h s e in subst (λ w. StandsFor w (S ++ L)) (taken-same greatest h s e) (StandsFor-joined both.0 both.1))
        | false ↦ λ e. subst (λ w. StandsFor w (S ++ L)) (taken-other greatest h s e) (StandsFor-classes fine)
      ] in
      step (same_bins h s) refl

pub resolution-with_room : (h : Plain) (x : ℕ) → resolution (with_room h x) ≡ resolution h
unfolding with_bins_to
resolution-with_room h x = elim (cases_lt (reach h) x) [
  | inl lt ↦ ap (λ (w : Plain). resolution w) (with_room-more h x lt)
  | inr le ↦ ap (λ (w : Plain). resolution w) (with_room-same h x le)
]

no-samples : (L : List ℕ) → length L ≡ 0 → L ≡ []
no-samples [] e = refl
no-samples (x ∷ L) e = absurd (omega arith)

-- adding a source adds its samples
pub StandsFor-merged : (greatest most : ℕ) (h s : Plain) (S L : List ℕ) → 1 ≤ greatest → IsPlain greatest h → IsPlain most s → max_of s < 2 ^ 64 → StandsFor h S → StandsFor s L
    → IsFiner (resolution s) (resolution h) → Fits greatest (resolution h) (S ++ L) → StandsFor (after_add greatest h s) (S ++ L)
StandsFor-merged greatest most h s S L one p q small stands source fine fits =
    elim (cases_lt 0 s.total) [
      | inl pos ↦ (
          let m = max_of s in
          let w = with_room h m in
          let parts : IsPlain greatest w × StandsFor w S = elim (cases_lt (reach h) m) [
            | inl lt ↦ rw (with_room-more h m lt) (IsPlain-grown greatest h m p small lt, StandsFor-grown greatest h m S lt p stands)
            | inr le ↦ rw (with_room-same h m le) (p, stands)
          ] in
          let same = resolution-with_room h m in
          subst (λ x. StandsFor x (S ++ L)) (sym (merged-some greatest h s (λ e. omega arith)))
          (StandsFor-taken greatest most w s S L one parts.0 q parts.1 source (with_room-reach h m)
          (subst (λ (g : Resolution). Fits greatest g (S ++ L)) (sym same) fits)
          (subst (λ (g : Resolution). IsFiner (resolution s) g) (sym same) fine))
          )
      | inr none ↦ (
          let empty : L ≡ [] = no-samples L (omega (arith, source.total)) in
          subst (λ x. StandsFor x (S ++ L)) (sym (merged-none greatest h s (omega arith)))
          (subst (λ l. StandsFor h (S ++ l)) (sym empty) (subst (λ l. StandsFor h l) (sym (append-nil S)) stands))
          )
    ]

-- ---- `high`

recorded-high : (greatest : ℕ) (h : Plain) (v n : ℕ) → v ≤ reach h → (after_record greatest h v n).high ≡ h.high
unfolding after_add_to_bin
recorded-high greatest h v n le = sym (ap (λ (w : Plain). w.high) (recorded-inside greatest h v n le))

pub each-high : (greatest : ℕ) (h : Plain) (ts : List Times) → All (λ (t : Times). t.value ≤ reach h) ts → (after_records greatest h ts).high ≡ h.high
each-high greatest h [] a = refl
each-high greatest h (t ∷ ts) a =
    let le = All-head (λ (t : Times). t.value ≤ reach h) t ts a in
    let same = reach-recorded greatest h t.value t.times le in
    each-high greatest (after_record greatest h t.value t.times) ts (within-same (reach h) (reach (after_record greatest h t.value t.times)) ts (sym same) (All-tail (λ (t : Times). t.value ≤ reach h) t ts a))
    ∙ recorded-high greatest h t.value t.times le

taken-same-bounds : (greatest most : ℕ) (h s : Plain) → IsPlain most s → max_of s ≤ reach h → (resolution (after_add_within greatest h s) ≡ resolution h) × ((after_add_within greatest h s).high ≡ h.high)
unfolding after_add_same_bins
taken-same-bounds greatest most h s q room =
    let step : (b : Bool) → same_bins h s ≡ b → (resolution (after_add_within greatest h s) ≡ resolution h) × ((after_add_within greatest h s).high ≡ h.high) =
    λ b. elim b as (λ b. same_bins h s ≡ b → (resolution (after_add_within greatest h s) ≡ resolution h) × ((after_add_within greatest h s).high ≡ h.high)) [
      | true ↦ λ e. (let t = taken-same greatest h s e in (sym (ap (λ (w : Plain). resolution w) t), sym (ap (λ (w : Plain). w.high) t)))
      | false ↦ λ e. (
          let t = taken-other greatest h s e in
          let ts = classes_from (resolution s) 0 s.counts ++ top_class (resolution s) s.top_mark in
          (sym (ap (λ (w : Plain). resolution w) t) ∙ resolution-each greatest h ts, sym (ap (λ (w : Plain). w.high) t) ∙ each-high greatest h ts (classes-inside most s (reach h) q room))
          )
    ] in
    step (same_bins h s) refl

with_room-high : (h : Plain) (x : ℕ) → (with_room h x).high ≡ high_with (resolution h) h.high x x
unfolding high_with reach with_bins_to
with_room-high h x = elim (cases_lt (reach h) x) [
  | inl lt ↦ ap (λ (w : Plain). w.high) (with_room-more h x lt) ∙ rw (leb-no x (reach_of (resolution h) h.high) lt) refl
  | inr le ↦ ap (λ (w : Plain). w.high) (with_room-same h x le) ∙ rw (leb-yes x (reach_of (resolution h) h.high) le) refl
]

pub resolution-merged : (greatest most : ℕ) (h s : Plain) → IsPlain most s → resolution (after_add greatest h s) ≡ resolution h
resolution-merged greatest most h s q = elim (cases_lt 0 s.total) [
  | inl pos ↦ ap (λ (w : Plain). resolution w) (merged-some greatest h s (λ e. omega arith)) ∙ (taken-same-bounds greatest most (with_room h (max_of s)) s q (with_room-reach h (max_of s))).0 ∙ resolution-with_room h (max_of s)
  | inr none ↦ ap (λ (w : Plain). resolution w) (merged-none greatest h s (omega arith))
]

-- the `high` of the list of calls is that of the histogram
pub merged-high : (greatest most : ℕ) (h s : Plain) → IsPlain most s
    → (after_add greatest h s).high ≡ cond (eqb s.total 0) h.high (high_with (resolution h) h.high (max_of s) (max_of s))
merged-high greatest most h s q = elim (cases_lt 0 s.total) [
  | inl pos ↦ (
      let n : eqb s.total 0 ≡ false = (let some : s.total ≢ 0 = λ e. omega arith in grind (arith, nat_tests)) in
      rw n (ap (λ (w : Plain). w.high) (merged-some greatest h s (λ e. omega arith)) ∙ (taken-same-bounds greatest most (with_room h (max_of s)) s q (with_room-reach h (max_of s))).1 ∙ with_room-high h (max_of s))
      )
  | inr none ↦ (
      let y : eqb s.total 0 ≡ true = (let none : s.total ≡ 0 = omega arith in grind (arith, nat_tests)) in
      rw y (ap (λ (w : Plain). w.high) (merged-none greatest h s (omega arith)))
      )
]

pub recorded-high_with : (greatest : ℕ) (h : Plain) (v n : ℕ) → (after_record greatest h v n).high ≡ high_with (resolution h) h.high v (reach_of (resolution h) v)
unfolding high_with reach after_record after_add_to_bin with_bins_for with_bins_to
recorded-high_with greatest h v n = elim (cases_lt (reach h) v) [
  | inl lt ↦ rw (leb-no v (reach_of (resolution h) h.high) lt) refl
  | inr le ↦ rw (leb-yes v (reach_of (resolution h) h.high) le) refl
]

-- a source that stands for no samples
pub stands-none : (h s : Plain) (S L : List ℕ) → s.total ≡ 0 → StandsFor h S → StandsFor s L → StandsFor h (S ++ L)
stands-none h s S L none stands source =
    let empty : L ≡ [] = no-samples L (omega (arith, source.total)) in
    subst (λ l. StandsFor h (S ++ l)) (sym empty) (subst (λ l. StandsFor h l) (sym (append-nil S)) stands)
