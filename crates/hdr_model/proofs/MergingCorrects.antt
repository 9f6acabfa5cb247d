-- A corrected source has the samples of its samples, corrected.
use Rattle.std.proofs.Common.{◌≡◌, ℕ, zero, suc, ◌+◌, ◌*◌, ◌^◌, ◌<◌, ◌≤◌, cond, eqb, max, List, [], ◌∷◌, ◌++◌, length, take, get_or, sum_by, replicate, refl, sym, ap, subst, ◌∙◌, arith, inl, inr}
use Rattle.std.proofs.lemmas.Bool.{cases_lt}
use Rattle.std.proofs.lemmas.List.Sums.{sum_by-cons, sum_by-append}
use Rattle.std.proofs.lemmas.List.Folds.{sum_by-replicate}
use Rattle.std.specs.List.{All}
use Rattle.std.proofs.lemmas.List.{length-append, take_more, get_or_past, length-take-le, append-nil, append_assoc}
use Rattle.std.proofs.lemmas.List.Elements.{All-append, All-cons, All-nil, All-weaker}
use Rattle.hdr_base.specs.Classes.{Resolution, bin_of, value_of, top_of, reach_of}
use Rattle.hdr_base.proofs.ClassesLaws.{bin-top, same-bin, lowest-le, top-above}
use Rattle.hdr_base.proofs.ClassesFiner.{bin-value_of}
use Rattle.hdr_base.proofs.ClassesReach.{reach-fits}
use Rattle.hdr_model.specs.Plain.{Plain, IsPlain, resolution, reach}
use Rattle.hdr_model.specs.Samples.{in_class, StandsFor, Fits}
use Rattle.hdr_model.specs.Recording.{Times, samples_of, after_add_to_bin, after_record, after_records, with_bins_for, with_bins_to, after_reset, high_with}
use Rattle.hdr_model.specs.Correction.{missing, each_times, after_correct}
use Rattle.hdr_model.specs.Merging.{corrections_from, corrected_samples, last_top, highest_top, after_add_correct}
use Rattle.hdr_model.proofs.PlainKept.{resolution-digits, resolution-fits, widened-same, widened-more, past-reach, IsPlain-grown, leb-no, leb-yes, room-in}
use Rattle.hdr_model.proofs.RecordingStands.{eqb-same, in_class-none, StandsFor-grown, reach-grown}
use Rattle.hdr_model.proofs.MergingKeeps.{value-le-top, recorded_each-append}
use Rattle.hdr_model.proofs.CorrectionFacts.{missing-within}
use Rattle.hdr_model.proofs.CorrectionByClass.{each-within}
use Rattle.hdr_model.proofs.RecordingClears.{resolution-restarted, reach-restarted, restarted-grown}
use Rattle.hdr_model.proofs.MergingStands.{weigh, spread-append, numbers-weigh, sum_by-same, in_class-append, StandsFor-swap, StandsFor-each, resolution-each, reach-each, each-high}

spread-each : (f : ℕ → ℕ) (n : ℕ) (vs : List ℕ) → sum_by f (samples_of (each_times n vs)) ≡ n * sum_by f vs
spread-each f n [] = (let e : 0 ≡ n * 0 = omega arith in e)
spread-each f n (v ∷ vs) =
    sum_by-append f (replicate n v) (samples_of (each_times n vs)) ∙ ap (λ x. x + sum_by f (samples_of (each_times n vs))) (sum_by-replicate f n v) ∙ ap (λ x. n * f v + x) (spread-each f n vs)
    ∙ (let e : n * f v + n * sum_by f vs ≡ n * (f v + sum_by f vs) = omega arith in e) ∙ ap (λ x. n * x) (sym (sum_by-cons f v vs))

-- what the correction of a class weighs
correction-weighs : (ℕ → ℕ) → Resolution → ℕ → ℕ → ℕ
correction-weighs f g i v = sum_by f (top_of g v ∷ missing (top_of g v) i)

corrected-weigh : (f : ℕ → ℕ) (g : Resolution) (i k : ℕ) (ns : List ℕ) → sum_by f (samples_of (corrections_from g i k ns)) ≡ weigh (λ c. correction-weighs f g i (value_of g c)) k ns
unfolding weigh correction-weighs
corrected-weigh f g i k [] = refl
corrected-weigh f g i k (zero ∷ ns) =
    let w : ℕ → ℕ = λ c. correction-weighs f g i (value_of g c) in
    corrected-weigh f g i (suc k) ns ∙ (let e : weigh w (suc k) ns ≡ 0 * w k + weigh w (suc k) ns = omega arith in e)
corrected-weigh f g i k (suc n ∷ ns) =
    let vs = top_of g (value_of g k) ∷ missing (top_of g (value_of g k)) i in
    let rest = corrections_from g i (suc k) ns in
    ap (λ l. sum_by f l) (spread-append (each_times (suc n) vs) rest) ∙ sum_by-append f (samples_of (each_times (suc n) vs)) (samples_of rest)
    ∙ ap (λ x. x + sum_by f (samples_of rest)) (spread-each f (suc n) vs) ∙ ap (λ x. suc n * sum_by f vs + x) (corrected-weigh f g i (suc k) ns)

corrected-samples-weigh : (f : ℕ → ℕ) (g : Resolution) (i : ℕ) (L : List ℕ) → sum_by f (corrected_samples g i L) ≡ sum_by (correction-weighs f g i) L
unfolding correction-weighs
corrected-samples-weigh f g i [] = refl
corrected-samples-weigh f g i (x ∷ L) =
    let vs = top_of g x ∷ missing (top_of g x) i in
    sum_by-append f vs (corrected_samples g i L) ∙ ap (λ k. sum_by f vs + k) (corrected-samples-weigh f g i L) ∙ sym (sum_by-cons (correction-weighs f g i) x L)

-- the corrected classes sum to what the corrected samples sum to, for classes of any width
pub corrected-sum : (greatest : ℕ) (s : Plain) (i : ℕ) (L : List ℕ) → IsPlain greatest s → StandsFor s L → (f : ℕ → ℕ)
    → sum_by f (samples_of (corrections_from (resolution s) i 0 s.counts)) ≡ sum_by f (corrected_samples (resolution s) i L)
unfolding correction-weighs
corrected-sum greatest s i L q stands f =
    let g = resolution s in
    let m = resolution-digits greatest s q in
    corrected-weigh f g i 0 s.counts ∙ numbers-weigh greatest s L q stands (λ c. correction-weighs f g i (value_of g c))
    ∙ sum_by-same (λ x. correction-weighs f g i (value_of g (bin_of g x))) (correction-weighs f g i) L
    (λ x. ap (λ t. sum_by f (t ∷ missing t i)) (bin-top g (value_of g (bin_of g x)) x m (bin-value_of g (bin_of g x) m)))
    ∙ sym (corrected-samples-weigh f g i L)

-- each class of any target holds as many
pub corrected-class : (greatest : ℕ) (s : Plain) (i : ℕ) (L : List ℕ) → IsPlain greatest s → StandsFor s L → (t : Resolution) (j : ℕ)
    → in_class t j (samples_of (corrections_from (resolution s) i 0 s.counts)) ≡ in_class t j (corrected_samples (resolution s) i L)
corrected-class greatest s i L q stands t j = corrected-sum greatest s i L q stands (λ x. cond (eqb (bin_of t x) j) 1 0)

-- a corrected source adds its corrected samples, of a unit and digits of any size
pub StandsFor-corrected : (greatest most : ℕ) (h s : Plain) (i : ℕ) (S L : List ℕ) → 1 ≤ greatest → IsPlain greatest h → IsPlain most s → StandsFor h S → StandsFor s L
    → All (λ (t : Times). t.value ≤ reach h) (corrections_from (resolution s) i 0 s.counts) → All (λ x. x ≤ reach h) (corrected_samples (resolution s) i L)
    → Fits greatest (resolution h) (S ++ corrected_samples (resolution s) i L)
    → StandsFor (after_records greatest h (corrections_from (resolution s) i 0 s.counts)) (S ++ corrected_samples (resolution s) i L)
StandsFor-corrected greatest most h s i S L one p q stands source values inside fits =
    let g = resolution h in
    let ts = corrections_from (resolution s) i 0 s.counts in
    let P = samples_of ts in
    let C = corrected_samples (resolution s) i L in
    let same : (j : ℕ) → in_class g j (S ++ P) ≡ in_class g j (S ++ C) = λ j. omega (arith, in_class-append g j S P, in_class-append g j S C, corrected-class most s i L q source g j) in
    let ones = corrected-sum most s i L q source (λ x. 1) in
    let len : length (S ++ P) ≡ length (S ++ C) = omega (arith, length-append S P, length-append S C, length-ones P, length-ones C, ones) in
    let fits_P : Fits greatest g (S ++ P) = record { in_all = omega (arith, len, fits.in_all); in_classes = λ j. omega (arith, same j, fits.in_classes j) } in
    let w = after_records greatest h ts in
    StandsFor-swap w (S ++ P) (S ++ C)
    (λ j. subst (λ (k : Resolution). in_class k j (S ++ P) ≡ in_class k j (S ++ C)) (sym (resolution-each greatest h ts)) (same j))
    len
    (subst (λ r. All (λ x. x ≤ r) (S ++ C)) (sym (reach-each greatest h ts values)) (All-append (λ x. x ≤ reach h) S C stands.within inside))
    (StandsFor-each greatest h ts S one p values stands fits_P)
  where
    length-ones : (xs : List ℕ) → length xs ≡ sum_by (λ x. 1) xs
    length-ones [] = refl
    length-ones (x ∷ xs) = omega (arith, sum_by-cons (λ (x : ℕ). 1) x xs, length-ones xs)

-- ---- the last nonempty class

pub bin-of-top : (g : Resolution) (v : ℕ) → 0 < g.digits → bin_of g (top_of g v) ≡ bin_of g v
unfolding top_of
bin-of-top g v m = same-bin g v (top_of g v) m (omega (arith, lowest-le g v, top-above g v)) (omega (arith, lowest-le g v, top-above g v))

module _ (g : Resolution) where
  pub class-le-last : (k i : ℕ) (ns : List ℕ) → 0 < get_or ns i 0 → top_of g (value_of g (k + i)) ≤ last_top g k ns
  class-le-last k i [] pos = (let none : (xs : List ℕ) → length xs ≤ i → get_or xs i 0 ≡ 0 = λ xs le. get_or_past xs i 0 le in absurd (omega (arith, none [] (omega arith))))
  class-le-last k zero (zero ∷ ns) pos = absurd (omega arith)
  class-le-last k zero (suc n ∷ ns) pos = subst (λ j. top_of g (value_of g j) ≤ max (top_of g (value_of g k)) (last_top g (suc k) ns)) (let e : k ≡ k + 0 = omega arith in e) (omega arith)
  class-le-last k (suc i) (zero ∷ ns) pos =
      subst (λ j. top_of g (value_of g j) ≤ last_top g (suc k) ns) (let e : suc k + i ≡ k + suc i = omega arith in e) (class-le-last (suc k) i ns pos)
  class-le-last k (suc i) (suc n ∷ ns) pos =
      let le : top_of g (value_of g (k + suc i)) ≤ last_top g (suc k) ns =
      subst (λ j. top_of g (value_of g j) ≤ last_top g (suc k) ns) (let e : suc k + i ≡ k + suc i = omega arith in e) (class-le-last (suc k) i ns pos) in
      omega (arith, le)

  pub last-le : (r k : ℕ) (ns : List ℕ) → ((i : ℕ) → 0 < get_or ns i 0 → top_of g (value_of g (k + i)) ≤ r) → last_top g k ns ≤ r
  last-le r k [] f = omega arith
  last-le r k (zero ∷ ns) f =
      last-le r (suc k) ns (λ i pos. subst (λ j. top_of g (value_of g j) ≤ r) (let e : k + suc i ≡ suc k + i = omega arith in e) (f (suc i) pos))
  last-le r k (suc n ∷ ns) f =
      let first : top_of g (value_of g k) ≤ r = subst (λ j. top_of g (value_of g j) ≤ r) (let e : k + 0 ≡ k = omega arith in e) (f 0 (omega arith)) in
      omega (arith, first, last-le r (suc k) ns (λ i pos. subst (λ j. top_of g (value_of g j) ≤ r) (let e : k + suc i ≡ suc k + i = omega arith in e) (f (suc i) pos)))

  -- each value of a corrected class is at or below the top
  pub corrected-within : (r i k : ℕ) (ns : List ℕ) → ((j : ℕ) → 0 < get_or ns j 0 → top_of g (value_of g (k + j)) ≤ r) → All (λ (t : Times). t.value ≤ r) (corrections_from g i k ns)
  corrected-within r i k [] f = All-nil (λ (t : Times). t.value ≤ r)
  corrected-within r i k (zero ∷ ns) f =
      corrected-within r i (suc k) ns (λ j pos. subst (λ j. top_of g (value_of g j) ≤ r) (let e : k + suc j ≡ suc k + j = omega arith in e) (f (suc j) pos))
  corrected-within r i k (suc n ∷ ns) f =
      let top = top_of g (value_of g k) in
      let first : top ≤ r = subst (λ j. top_of g (value_of g j) ≤ r) (let e : k + 0 ≡ k = omega arith in e) (f 0 (omega arith)) in
      All-append (λ (t : Times). t.value ≤ r) (each_times (suc n) (top ∷ missing top i)) (corrections_from g i (suc k) ns)
      (each-within r (suc n) (top ∷ missing top i) (All-cons (λ x. x ≤ r) top (missing top i) first (missing-within top i r first)))
      (corrected-within r i (suc k) ns (λ j pos. subst (λ j. top_of g (value_of g j) ≤ r) (let e : k + suc j ≡ suc k + j = omega arith in e) (f (suc j) pos)))

  -- so is each corrected sample
  pub samples-within : (r i : ℕ) (L : List ℕ) → 0 < g.digits → ((j : ℕ) → 0 < in_class g j L → top_of g (value_of g j) ≤ r) → All (λ x. x ≤ r) (corrected_samples g i L)
  samples-within r i [] m f = All-nil (λ x. x ≤ r)
  samples-within r i (x ∷ L) m f =
      let top = top_of g x in
      let same : top_of g (value_of g (bin_of g x)) ≡ top = bin-top g (value_of g (bin_of g x)) x m (bin-value_of g (bin_of g x) m) in
      let one : in_class g (bin_of g x) (x ∷ L) ≡ 1 + in_class g (bin_of g x) L =
      sum_by-cons (λ y. cond (eqb (bin_of g y) (bin_of g x)) 1 0) x L ∙ ap (λ b. cond b 1 0 + in_class g (bin_of g x) L) (eqb-same (bin_of g x)) in
      let le : top ≤ r = omega (arith, same, f (bin_of g x) (omega (arith, one))) in
      All-append (λ y. y ≤ r) (top ∷ missing top i) (corrected_samples g i L) (All-cons (λ y. y ≤ r) top (missing top i) le (missing-within top i r le))
      (samples-within r i L m (λ j pos. f j (omega (arith, pos, sum_by-cons (λ y. cond (eqb (bin_of g y) j) 1 0) x L))))

  -- the class of the last number above 0 has the greatest top
  pub last-at : (i : ℕ) (ns : List ℕ) → 0 < g.digits → 0 < get_or ns i 0 → ((j : ℕ) → i < j → get_or ns j 0 ≡ 0) → last_top g 0 ns ≡ top_of g (value_of g i)
  last-at i ns m pos none =
      let low : top_of g (value_of g i) ≤ last_top g 0 ns = subst (λ j. top_of g (value_of g j) ≤ last_top g 0 ns) (let e : 0 + i ≡ i = omega arith in e) (class-le-last 0 i ns pos) in
      let high : last_top g 0 ns ≤ top_of g (value_of g i) = last-le (top_of g (value_of g i)) 0 ns (λ j some.
      (let le : j ≤ i = elim (cases_lt i j) [ inl lt ↦ absurd (omega (arith, none j lt)) | inr ge ↦ ge ] in
      let top = top_of g (value_of g (0 + j)) in
      let at : bin_of g top ≡ j = bin-of-top g (value_of g (0 + j)) m ∙ bin-value_of g (0 + j) m ∙ (let e : 0 + j ≡ j = omega arith in e) in
      value-le-top g top i m (omega (arith, at)))) in
      omega (arith, low, high)

  pub last-none : (ns : List ℕ) → ((j : ℕ) → get_or ns j 0 ≡ 0) → last_top g 0 ns ≡ 0
  last-none ns none = (let le : last_top g 0 ns ≤ 0 = last-le 0 0 ns (λ i pos. absurd (omega (arith, none i))) in omega (arith, le))

-- ---- one more class

pub corrected-more-none : (g : Resolution) (i k : ℕ) (ns : List ℕ) → corrections_from g i k (ns ++ 0 ∷ []) ≡ corrections_from g i k ns
corrected-more-none g i k [] = refl
corrected-more-none g i k (zero ∷ ns) = corrected-more-none g i (suc k) ns
corrected-more-none g i k (suc n ∷ ns) =
    ap (λ ts. each_times (suc n) (top_of g (value_of g k) ∷ missing (top_of g (value_of g k)) i) ++ ts) (corrected-more-none g i (suc k) ns)

-- what the correction of class k of n samples is
pub one-corrected : Resolution → ℕ → ℕ → ℕ → List Times
one-corrected g i n k = each_times n (top_of g (value_of g k) ∷ missing (top_of g (value_of g k)) i)

pub corrected-more-some : (g : Resolution) (i k n : ℕ) (ns : List ℕ) → 0 < n → corrections_from g i k (ns ++ n ∷ []) ≡ corrections_from g i k ns ++ one-corrected g i n (k + length ns)
unfolding one-corrected
corrected-more-some g i k zero [] pos = absurd (omega arith)
corrected-more-some g i k (suc n) [] pos = append-nil (one-corrected g i (suc n) k) ∙ ap (λ j. one-corrected g i (suc n) j) (let e : k ≡ k + 0 = omega arith in e)
corrected-more-some g i k n (zero ∷ ns) pos =
    corrected-more-some g i (suc k) n ns pos ∙ ap (λ j. corrections_from g i (suc k) ns ++ one-corrected g i n j) (let e : suc k + length ns ≡ k + suc (length ns) = omega arith in e)
corrected-more-some g i k n (suc m ∷ ns) pos =
    ap (λ ts. one-corrected g i (suc m) k ++ ts)
    (corrected-more-some g i (suc k) n ns pos ∙ ap (λ j. corrections_from g i (suc k) ns ++ one-corrected g i n j) (let e : suc k + length ns ≡ k + suc (length ns) = omega arith in e))
    ∙ sym (append_assoc (one-corrected g i (suc m) k) (corrections_from g i (suc k) ns) (one-corrected g i n (k + suc (length ns))))

module _ (greatest : ℕ) (h : Plain) (g : Resolution) (i : ℕ) (ns : List ℕ) (k : ℕ) where
  pub corrected-next : k < length ns → 0 < get_or ns k 0
      → after_records greatest (after_records greatest h (corrections_from g i 0 (take k ns))) (each_times (get_or ns k 0) (top_of g (value_of g k) ∷ missing (top_of g (value_of g k)) i))
      ≡ after_records greatest h (corrections_from g i 0 (take (k + 1) ns))
  unfolding one-corrected
  corrected-next lt pos =
      let n = get_or ns k 0 in
      let place : 0 + length (take k ns) ≡ k = omega (arith, length-take-le k ns (omega arith)) in
      let classes : corrections_from g i 0 (take (k + 1) ns) ≡ corrections_from g i 0 (take k ns) ++ one-corrected g i n k =
      ap (λ l. corrections_from g i 0 l) (take_more ns k 0 lt) ∙ corrected-more-some g i 0 n (take k ns) pos ∙ ap (λ j. corrections_from g i 0 (take k ns) ++ one-corrected g i n j) place in
      sym (ap (λ ts. after_records greatest h ts) classes ∙ recorded_each-append greatest h (corrections_from g i 0 (take k ns)) (one-corrected g i n k))

-- ---- bins made first

pub StandsFor-widened : (greatest : ℕ) (h : Plain) (v : ℕ) (S : List ℕ) → IsPlain greatest h → StandsFor h S → StandsFor (with_bins_for h v) S
StandsFor-widened greatest h v S p s = elim (cases_lt (reach h) v) [
  | inl lt ↦ subst (λ (w : Plain). StandsFor w S) (sym (widened-more h v lt)) (StandsFor-grown greatest h (reach_of (resolution h) v) S (past-reach greatest h v p lt) p s)
  | inr le ↦ subst (λ (w : Plain). StandsFor w S) (sym (widened-same h v le)) s
]

pub IsPlain-widened : (greatest : ℕ) (h : Plain) (v : ℕ) → v < 2 ^ 64 → IsPlain greatest h → IsPlain greatest (with_bins_for h v)
IsPlain-widened greatest h v small p = elim (cases_lt (reach h) v) [
  | inl lt ↦ subst (λ (w : Plain). IsPlain greatest w) (sym (widened-more h v lt))
      (IsPlain-grown greatest h (reach_of (resolution h) v) p (reach-fits (resolution h) v small (resolution-fits greatest h p)) (past-reach greatest h v p lt))
  | inr le ↦ subst (λ (w : Plain). IsPlain greatest w) (sym (widened-same h v le)) p
]

pub resolution-widened : (h : Plain) (v : ℕ) → resolution (with_bins_for h v) ≡ resolution h
unfolding with_bins_to
resolution-widened h v = elim (cases_lt (reach h) v) [
  | inl lt ↦ ap (λ (w : Plain). resolution w) (widened-more h v lt)
  | inr le ↦ ap (λ (w : Plain). resolution w) (widened-same h v le)
]

pub widened-holds : (h : Plain) (v : ℕ) → v ≤ reach (with_bins_for h v)
widened-holds h v = elim (cases_lt (reach h) v) [
  | inl lt ↦ subst (λ (w : Plain). v ≤ reach w) (sym (widened-more h v lt)) (reach-grown h v)
  | inr le ↦ subst (λ (w : Plain). v ≤ reach w) (sym (widened-same h v le)) le
]

pub widened-high_with : (h : Plain) (v : ℕ) → (with_bins_for h v).high ≡ high_with (resolution h) h.high v (reach_of (resolution h) v)
unfolding high_with with_bins_for with_bins_to reach
widened-high_with h v = elim (cases_lt (reach h) v) [
  | inl lt ↦ rw (leb-no v (reach_of (resolution h) h.high) lt) refl
  | inr le ↦ rw (leb-yes v (reach_of (resolution h) h.high) le) refl
]

pub restarted-widened : (h : Plain) (x : ℕ) → after_reset (with_bins_for h x) ≡ with_bins_for (after_reset h) x
restarted-widened h x = elim (cases_lt (reach h) x) [
  | inl lt ↦ ap (λ (w : Plain). after_reset w) (widened-more h x lt) ∙ restarted-grown h (reach_of (resolution h) x)
      ∙ ap (λ (k : Resolution). with_bins_to (after_reset h) (reach_of k x)) (sym (resolution-restarted h)) ∙ sym (widened-more (after_reset h) x (omega (arith, lt, reach-restarted h)))
  | inr le ↦ ap (λ (w : Plain). after_reset w) (widened-same h x le) ∙ sym (widened-same (after_reset h) x (omega (arith, le, reach-restarted h)))
]

-- ---- all classes of a source

pub corrected-inside : (s : Plain) (i r : ℕ) → highest_top s ≤ r → All (λ (t : Times). t.value ≤ r) (corrections_from (resolution s) i 0 s.counts)
unfolding highest_top
corrected-inside s i r room = corrected-within (resolution s) r i 0 s.counts (λ j pos. omega (arith, class-le-last (resolution s) 0 j s.counts pos, room))

pub class-inside : (s : Plain) (k : ℕ) → 0 < get_or s.counts k 0 → top_of (resolution s) (value_of (resolution s) k) ≤ highest_top s
unfolding highest_top
class-inside s k pos = subst (λ j. top_of (resolution s) (value_of (resolution s) j) ≤ last_top (resolution s) 0 s.counts) (let e : 0 + k ≡ k = omega arith in e) (class-le-last (resolution s) 0 k s.counts pos)

pub StandsFor-merged_corrected : (greatest most : ℕ) (h s : Plain) (i : ℕ) (S L : List ℕ) → 1 ≤ greatest → IsPlain greatest h → IsPlain most s → highest_top s < 2 ^ 64
    → StandsFor h S → StandsFor s L → Fits greatest (resolution h) (S ++ corrected_samples (resolution s) i L)
    → StandsFor (after_add_correct greatest h s i) (S ++ corrected_samples (resolution s) i L)
unfolding after_add_correct
StandsFor-merged_corrected greatest most h s i S L one p q small stands source fits =
    let w = with_bins_for h (highest_top s) in
    let m = resolution-digits most s q in
    let holds = widened-holds h (highest_top s) in
    let inside : (j : ℕ) → 0 < in_class (resolution s) j L → top_of (resolution s) (value_of (resolution s) j) ≤ reach w = λ j pos.
    omega (arith, holds, class-inside s j (some-number most s L j q source pos)) in
    StandsFor-corrected greatest most w s i S L one (IsPlain-widened greatest h (highest_top s) small p) q (StandsFor-widened greatest h (highest_top s) S p stands) source
    (corrected-inside s i (reach w) holds) (samples-within (resolution s) (reach w) i L m inside)
    (subst (λ (k : Resolution). Fits greatest k (S ++ corrected_samples (resolution s) i L)) (sym (resolution-widened h (highest_top s))) fits)
  where
    some-number : (most : ℕ) (s : Plain) (L : List ℕ) (j : ℕ) → IsPlain most s → StandsFor s L → 0 < in_class (resolution s) j L → 0 < get_or s.counts j 0
    some-number most s L j q source pos = elim (cases_lt j (length s.counts)) [
      | inl lt ↦ omega (arith, source.numbers j lt)
      | inr ge ↦ absurd (omega (arith, in_class-none (resolution s) j L (All-weaker (λ x. x ≤ reach s) (λ x. bin_of (resolution s) x < j) (λ x le. omega (arith, room-in most s x q le)) L source.within)))
    ]

pub merged_corrected-high : (greatest : ℕ) (h s : Plain) (i : ℕ)
    → (after_add_correct greatest h s i).high ≡ high_with (resolution h) h.high (highest_top s) (reach_of (resolution h) (highest_top s))
unfolding after_add_correct
merged_corrected-high greatest h s i =
    each-high greatest (with_bins_for h (highest_top s)) (corrections_from (resolution s) i 0 s.counts) (corrected-inside s i (reach (with_bins_for h (highest_top s))) (widened-holds h (highest_top s)))
    ∙ widened-high_with h (highest_top s)

pub resolution-merged_corrected : (greatest : ℕ) (h s : Plain) (i : ℕ) → resolution (after_add_correct greatest h s i) ≡ resolution h
unfolding after_add_correct
resolution-merged_corrected greatest h s i = resolution-each greatest (with_bins_for h (highest_top s)) (corrections_from (resolution s) i 0 s.counts) ∙ resolution-widened h (highest_top s)

-- ---- one value, corrected

pub recorded-from : (greatest : ℕ) (h : Plain) (v n : ℕ) → after_record greatest (with_bins_for h v) v n ≡ after_record greatest h v n
unfolding after_record
recorded-from greatest h v n =
    ap (λ (w : Plain). after_add_to_bin greatest w (bin_of (resolution (with_bins_for h v)) v) n) (widened-same (with_bins_for h v) v (widened-holds h v))
    ∙ ap (λ g. after_add_to_bin greatest (with_bins_for h v) (bin_of g v) n) (resolution-widened h v)

pub StandsFor-one-corrected : (greatest : ℕ) (h : Plain) (v n i : ℕ) (S : List ℕ) → v < 2 ^ 64 → 1 ≤ greatest → IsPlain greatest h → StandsFor h S
    → Fits greatest (resolution h) (S ++ samples_of (each_times n (v ∷ missing v i))) → StandsFor (after_correct greatest h v n i) (S ++ samples_of (each_times n (v ∷ missing v i)))
unfolding after_correct
StandsFor-one-corrected greatest h v n i S small one p s fits =
    let w = with_bins_for h v in
    let ts = each_times n (v ∷ missing v i) in
    let within : All (λ x. x ≤ reach w) (v ∷ missing v i) = All-cons (λ x. x ≤ reach w) v (missing v i) (widened-holds h v) (missing-within v i (reach w) (widened-holds h v)) in
    subst (λ (x : Plain). StandsFor (after_records greatest x (each_times n (missing v i))) (S ++ samples_of ts)) (recorded-from greatest h v n)
    (StandsFor-each greatest w ts S one (IsPlain-widened greatest h v small p) (each-within (reach w) n (v ∷ missing v i) within) (StandsFor-widened greatest h v S p s)
    (subst (λ (g : Resolution). Fits greatest g (S ++ samples_of ts)) (sym (resolution-widened h v)) fits))
