-- The samples of classes that were decoded.
use Rattle.std.proofs.Common.{◌≡◌, ℕ, zero, suc, ◌+◌, ◌*◌, ◌-◌, ◌^◌, ◌<◌, ◌≤◌, ◌==◌, Bool, true, false, cond, leb, ltb, List, [], ◌∷◌, ◌++◌, length, map, take, get_or, count_by, min, replicate, refl, sym, ap, subst, ◌∙◌, arith, inl, inr, append_assoc, append-nil, length-append}
use Rattle.std.specs.List.{All, sum_by}
use Rattle.std.proofs.lemmas.Bool.Decides.{nat_tests}
use Rattle.std.proofs.lemmas.Bool.{cases_lt}
use Rattle.std.proofs.lemmas.List.{map-append, map_more, get_or_append_left, get_or-append-add, length-map, length-replicate}
use Rattle.std.proofs.lemmas.List.Sums.{sum_by-append, sum_by-cons, count_by-le-length}
use Rattle.std.proofs.lemmas.List.Folds.{sum_by-replicate}
use Rattle.std.proofs.lemmas.List.Elements.{All-head, All-tail, All-cons, All-nil, All-append}
use Rattle.hdr_base.specs.Classes.{Resolution, bin_of, value_of, top_of, lowest_of, reach_of, bins_to, IsFiner, HasScale}
use Rattle.hdr_base.proofs.ClassesFiner.{bin-value_of, finer-bin}
use Rattle.hdr_base.proofs.ClassesDigits.{digits-pos-of}
use Rattle.hdr_base.proofs.ClassesReach.{within-bins, past-bins, reach-fits}
use Rattle.hdr_base.proofs.ClassesIntervals.{bin-equivalent}
use Rattle.hdr_model.specs.Plain.{Plain, IsPlain, resolution, reach}
use Rattle.hdr_model.specs.Recording.{Times, samples_of}
use Rattle.hdr_model.specs.Samples.{StandsFor, Fits, GainsSamples, in_class}
use Rattle.hdr_model.specs.Merging.{classes_from}
use Rattle.hdr_model.proofs.PlainKept.{resolution-digits, resolution-fits}
use Rattle.hdr_model.proofs.MergingStands.{spread-append, spread-sum, spread-length, sum_by-same}
use Rattle.hdrhistogram.specs.ClassesRead.{times_of}
use Rattle.hdrhistogram.specs.declared.serialization.class_decoder.RecordedBounds.{RecordedBounds}
use Rattle.hdrhistogram.specs.declared.serialization.class_decoder.RecordedClass.{RecordedClass}
use Rattle.hdr_verdict.specs.declared.width.Width.{Width}
use Rattle.hdr_verdict.specs.Samples.{Held, Rounds, classes_of, rounded, nothing_held, samples_between, width_of}
use Rattle.hdr_verdict.specs.ClassSamples.{AreClassesOf, AppendsHeld, GainsFew, LieAlike, values_of}
use Rattle.hdr_verdict.specs.Tails.{count_above}
use Rattle.hdr_verdict.proofs.CountsAbove.{above-tops, ends-same, top-fits}
use Rattle.hdr_verdict.proofs.Rounding.{in-class-most}
use Rattle.hdr_verdict.proofs.CellSamples.{exact_of, held-rounds, rounded-none, rounded-more}

-- ---- as many in any classes

-- a histogram's nonempty classes have its samples, in classes that are no finer
classes-alike : (most : ℕ) (h : Plain) (g : Resolution) (S : List ℕ) → IsPlain most h → StandsFor h S → IsFiner (resolution h) g → 0 < g.digits → LieAlike g (samples_of (classes_from (resolution h) 0 h.counts)) S
classes-alike most h g S plain stands finer m p =
    let digits = resolution-digits most h plain in
    spread-sum most h S plain stands (λ x. cond (p (bin_of g x)) 1 0)
    (λ x. ap (λ b. cond (p b) 1 0) (finer-bin (resolution h) g finer digits m (value_of (resolution h) (bin_of (resolution h) x)) x (bin-value_of (resolution h) (bin_of (resolution h) x) digits)))

both-alike : (g : Resolution) (A B S T : List ℕ) → LieAlike g A S → LieAlike g B T → LieAlike g (A ++ B) (S ++ T)
both-alike g A B S T a b p =
    let f : ℕ → ℕ = λ x. cond (p (bin_of g x)) 1 0 in
    sum_by-append f A B ∙ ap (λ n. n + sum_by f B) (a p) ∙ ap (λ n. sum_by f S + n) (b p) ∙ sym (sum_by-append f S T)

count-all : (L : List ℕ) → sum_by (λ (x : ℕ). 1) L ≡ length L
count-all [] = refl
count-all (x ∷ L) = omega (arith, sum_by-cons (λ (x : ℕ). 1) x L, count-all L)

pub alike-long : (g : Resolution) (A S : List ℕ) → LieAlike g A S → length A ≡ length S
alike-long g A S a = sym (count-all A) ∙ a (λ b. true) ∙ count-all S

-- ---- the classes of intervals

pub values-appended : (old new : List RecordedClass) (more : List Times) → map times_of new ≡ map times_of old ++ more → values_of new ≡ values_of old ++ samples_of more
values-appended old new more e = ap samples_of e ∙ spread-append (map times_of old) more

-- how many samples an interval has
pub held-long : (held : Held) (bounds : RecordedBounds) (old new : List RecordedClass) → AppendsHeld held bounds old new → old ≡ [] → min (length (values_of new)) (2 ^ 64 - 1) ≡ length held.samples
held-long held bounds old new a none =
    let h = a.histogram in
    let values : values_of new ≡ samples_of (classes_from (resolution h) 0 h.counts) = values-appended old new (classes_from (resolution h) 0 h.counts) a.appended ∙ ap (λ l. values_of l ++ samples_of (classes_from (resolution h) 0 h.counts)) none in
    let long : length (values_of new) ≡ length held.samples = ap length values ∙ spread-length (2 ^ 64 - 1) h held.samples a.plain a.is.samples in
    omega (arith, long, a.is.samples.total, a.plain.total_fits)

-- no intervals
pub none-decoded : (width : Width) (all : List Held) (first : ℕ) (classes : List RecordedClass) → classes ≡ [] → AreClassesOf width classes (rounded width (samples_between all first first))
none-decoded width all first classes none = record {
  exact = [];
  alike = λ p. ap (λ l. count_by (λ s. p (bin_of (classes_of width) s)) (values_of l)) none;
  is = sym (rounded-none width all first);
  fit = All-nil (λ s. s < 2 ^ 64);
}

samples-fit : (h : Plain) (S : List ℕ) → IsPlain (2 ^ 64 - 1) h → StandsFor h S → All (λ s. s < 2 ^ 64) S
unfolding reach
samples-fit h S plain stands = λ k d inside.
    let small : reach_of (resolution h) h.high < 2 ^ 64 = reach-fits (resolution h) h.high plain.high_fits (resolution-fits (2 ^ 64 - 1) h plain) in
    let within : get_or S k d ≤ reach_of (resolution h) h.high = stands.within k d inside in
    omega (arith, within, small)

-- one more interval
pub more-decoded : (width : Width) (all : List Held) (first index : ℕ) (bounds : RecordedBounds) (old new : List RecordedClass) → width ≡ width_of all → first ≤ index → index < length all → AppendsHeld (get_or all index nothing_held) bounds old new
    → AreClassesOf width old (rounded width (samples_between all first index)) → AreClassesOf width new (rounded width (samples_between all first (index + 1)))
more-decoded width all first index bounds old new are from inside a o =
    let g = classes_of width in
    let h = a.histogram in
    let held = get_or all index nothing_held in
    let fine = held-rounds width all index h are inside a.is in
    let one = classes-alike (2 ^ 64 - 1) h g held.samples a.plain a.is.samples fine.finer (digits-pos-of width.low width.sigfig) in
    let C = samples_of (classes_from (resolution h) 0 h.counts) in
    record {
      exact = o.exact ++ held.samples;
      alike = subst (λ l. LieAlike g l (o.exact ++ held.samples)) (sym (values-appended old new (classes_from (resolution h) 0 h.counts) a.appended)) (both-alike g (values_of old) C o.exact held.samples o.alike one);
      is = sym (rounded-more width all first index from inside) ∙ ap (λ l. l ++ rounded width held.samples) o.is ∙ sym (map-append (top_of g) o.exact held.samples);
      fit = All-append (λ s. s < 2 ^ 64) o.exact held.samples o.fit (samples-fit h held.samples a.plain a.is.samples);
    }

-- ---- recording them

pub gains-none : (h : Plain) → GainsFew h h []
gains-none h S stands few = subst (StandsFor h) (sym (append-nil S)) stands

pub gains-both : (h k m : Plain) (L M : List ℕ) → GainsFew h k L → GainsFew k m M → GainsFew h m (L ++ M)
gains-both h k m L M one two S stands few =
    let long = length-append L M in
    subst (StandsFor m) (append_assoc S L M) (two (S ++ L) (one S stands (omega (arith, long, few))) (omega (arith, long, few, length-append S L)))

pub gains-one : (h k : Plain) (L : List ℕ) → GainsSamples (2 ^ 64 - 1) h k L → GainsFew h k L
gains-one h k L gains S stands few =
    let all : length (S ++ L) < 2 ^ 64 = omega (arith, few, length-append S L) in
    gains S stands (record { in_all = all; in_classes = λ i. omega (arith, all, in-class-most (resolution h) i (S ++ L)) })

-- the values of one more class
abbrev no_class : RecordedClass
no_class = record { value = 0; count = 0 }

module _ (classes : List RecordedClass) (i : ℕ) (inside : i < length classes) (class : RecordedClass) (is : class ≡ get_or classes i no_class) where
  values-more : values_of (take (i + 1) classes) ≡ values_of (take i classes) ++ replicate class.count class.value
  values-more =
      values-appended (take i classes) (take (i + 1) classes) (times_of class ∷ []) (map_more times_of classes i no_class inside ∙ ap (λ c. map times_of (take i classes) ++ times_of c ∷ []) (sym is))
      ∙ ap (λ l. values_of (take i classes) ++ l) (append-nil (replicate class.count class.value))

  pub gains-more : (h k m : Plain) → GainsFew h k (values_of (take i classes)) → GainsFew k m (replicate class.count class.value) → GainsFew h m (values_of (take (i + 1) classes))
  gains-more h k m before one = subst (GainsFew h m) (sym values-more) (gains-both h k m (values_of (take i classes)) (replicate class.count class.value) before one)

  pub long-more : length (values_of (take (i + 1) classes)) ≡ length (values_of (take i classes)) + class.count
  long-more =
      ap length values-more ∙ length-append (values_of (take i classes)) (replicate class.count class.value) ∙ ap (λ n. length (values_of (take i classes)) + n) (length-replicate {A = ℕ} class.count class.value)

  count-more : (first : ℕ) → count_by (leb first) (values_of (take (i + 1) classes)) ≡ count_by (leb first) (values_of (take i classes)) + class.count * cond (leb first class.value) 1 0
  count-more first =
      let f : ℕ → ℕ = λ x. cond (leb first x) 1 0 in
      ap (sum_by f) values-more ∙ sum_by-append f (values_of (take i classes)) (replicate class.count class.value) ∙ ap (λ n. sum_by f (values_of (take i classes)) + n) (sum_by-replicate f class.count class.value)

  pub count-yes : (first : ℕ) → first ≤ class.value → count_by (leb first) (values_of (take (i + 1) classes)) ≡ count_by (leb first) (values_of (take i classes)) + class.count
  count-yes first from =
      let yes : leb first class.value ≡ true = grind (arith, nat_tests) in
      count-more first ∙ ap (λ (b : Bool). count_by (leb first) (values_of (take i classes)) + class.count * cond b 1 0) yes
      ∙ (let e : count_by (leb first) (values_of (take i classes)) + class.count * 1 ≡ count_by (leb first) (values_of (take i classes)) + class.count = omega arith in e)

  pub count-no : (first : ℕ) → class.value < first → count_by (leb first) (values_of (take (i + 1) classes)) ≡ count_by (leb first) (values_of (take i classes))
  count-no first below =
      let not-from : leb first class.value ≡ false = grind (arith, nat_tests) in
      count-more first ∙ ap (λ (b : Bool). count_by (leb first) (values_of (take i classes)) + class.count * cond b 1 0) not-from
      ∙ (let e : count_by (leb first) (values_of (take i classes)) + class.count * 0 ≡ count_by (leb first) (values_of (take i classes)) = omega arith in e)

-- ---- other samples of the same classes

all-front : (P : ℕ → Type 0) (E V : List ℕ) → All P (E ++ V) → All P E
all-front P E V all k d inside = subst P (get_or_append_left E V d k inside) (all k d (omega (arith, inside, length-append E V)))

all-behind : (P : ℕ → Type 0) (E V : List ℕ) → All P (E ++ V) → All P V
all-behind P E V all k d inside = subst P (get_or-append-add E V k d) (all (length E + k) d (omega (arith, inside, length-append E V)))

past-none : (g : Resolution) (x : ℕ) (V : List ℕ) → 0 < g.digits → All (λ v. v ≤ reach_of g x) V → count_by (λ s. leb (bins_to g x) (bin_of g s)) V ≡ 0
past-none g x [] m all = refl
past-none g x (v ∷ V) m all =
    let within : bin_of g v < bins_to g x = within-bins g x v m (All-head (λ v. v ≤ reach_of g x) v V all) in
    let no : leb (bins_to g x) (bin_of g v) ≡ false = grind (arith, nat_tests) in
    omega (arith, sum_by-cons (λ s. cond (leb (bins_to g x) (bin_of g s)) 1 0) v V, ap {B = ℕ} (λ (b : Bool). cond b 1 0) no, past-none g x V m (All-tail (λ v. v ≤ reach_of g x) v V all))

not-past : (g : Resolution) (x v : ℕ) → 0 < g.digits → ◌≡◌ {A = ℕ} (cond (leb (bins_to g x) (bin_of g v)) 1 0) 0 → v ≤ reach_of g x
not-past g x v m none = elim (cases_lt (reach_of g x) v) [
  | inl lt ↦ absurd (
      let past : bins_to g x ≤ bin_of g v = past-bins g x v m lt in
      let yes : leb (bins_to g x) (bin_of g v) ≡ true = grind (arith, nat_tests) in
      omega (arith, none, ap {B = ℕ} (λ (b : Bool). cond b 1 0) yes))
  | inr ge ↦ ge
]

none-past : (g : Resolution) (x : ℕ) (X : List ℕ) → 0 < g.digits → count_by (λ s. leb (bins_to g x) (bin_of g s)) X ≡ 0 → All (λ v. v ≤ reach_of g x) X
none-past g x [] m none = All-nil (λ v. v ≤ reach_of g x)
none-past g x (v ∷ X) m none =
    let split = sum_by-cons (λ s. cond (leb (bins_to g x) (bin_of g s)) 1 0) v X in
    All-cons (λ v. v ≤ reach_of g x) v X (not-past g x v m (omega (arith, split, none))) (none-past g x X m (omega (arith, split, none)))

-- a histogram stands for any samples that lie in its classes alike
pub rebased : (h : Plain) (E V X : List ℕ) → 0 < (resolution h).digits → LieAlike (resolution h) V X → StandsFor h (E ++ V) → StandsFor h (E ++ X)
unfolding reach
rebased h E V X m alike s =
    let g = resolution h in
    let P : ℕ → Type 0 = λ v. v ≤ reach_of g h.high in
    let none = sym (alike (λ b. leb (bins_to g h.high) b)) ∙ past-none g h.high V m (all-behind P E V s.within) in
    record {
      numbers = λ i inside. (
          let f : ℕ → ℕ = λ x. cond (bin_of g x == i) 1 0 in
          s.numbers i inside ∙ sum_by-append f E V ∙ ap (λ n. sum_by f E + n) (alike (λ b. b == i)) ∙ sym (sum_by-append f E X));
      within = All-append P E X (all-front P E V s.within) (none-past g h.high X m none);
      total = s.total ∙ length-append E V ∙ ap (λ n. length E + n) (alike-long g V X alike) ∙ sym (length-append E X);
    }

pub add-classes : (width : Width) (old new : Plain) (classes : List RecordedClass) (S T : List ℕ) → resolution new ≡ resolution old → resolution old ≡ classes_of width → GainsFew old new (values_of classes)
    → Rounds width old S → AreClassesOf width classes T → length S + length T < 2 ^ 64 → Rounds width new (S ++ T)
add-classes width old new classes S T kept same gains s t few =
    let g = classes_of width in
    let here : resolution new ≡ g = kept ∙ same in
    let long-S : length S ≡ length s.exact = ap length s.is ∙ length-map s.exact (top_of g) in
    let long-T : length T ≡ length t.exact = ap length t.is ∙ length-map t.exact (top_of g) in
    let values = alike-long g (values_of classes) t.exact t.alike in
    let stands = gains s.exact s.stands (omega (arith, few, long-S, long-T, values)) in
    record {
      finer = subst (λ r. IsFiner r g) (sym here) (record { unit = omega arith; digits = omega arith });
      exact = s.exact ++ t.exact;
      stands = rebased new s.exact (values_of classes) t.exact (subst (λ r. 0 < r.digits) (sym here) (digits-pos-of width.low width.sigfig)) (subst (λ r. LieAlike r (values_of classes) t.exact) (sym here) t.alike) stands;
      is = ap (λ l. l ++ T) s.is ∙ ap (λ l. rounded width s.exact ++ l) t.is ∙ sym (map-append (top_of g) s.exact t.exact);
    }

-- ---- above a value

tops-by-class : (g : Resolution) (v : ℕ) (L : List ℕ) → 0 < g.digits → count_by (λ s. ltb v (top_of g (value_of g (bin_of g s)))) L ≡ count_by (λ s. ltb v (top_of g s)) L
tops-by-class g v L m =
    sum_by-same (λ s. cond (ltb v (top_of g (value_of g (bin_of g s)))) 1 0) (λ s. cond (ltb v (top_of g s)) 1 0) L
    (λ s. ap (λ t. cond (ltb v t) 1 0) (bin-equivalent g (value_of g (bin_of g s)) s m (bin-value_of g (bin_of g s) m)).top)

above-values : (width : Width) (classes : List RecordedClass) (v : ℕ) (S : List ℕ) → AreClassesOf width classes S → count_above v S ≡ count_by (λ s. ltb v (top_of (classes_of width) s)) (values_of classes)
above-values width classes v S a =
    let g = classes_of width in
    let m = digits-pos-of width.low width.sigfig in
    ap (count_above v) a.is ∙ above-tops g v a.exact ∙ sym (tops-by-class g v a.exact m) ∙ sym (a.alike (λ b. ltb v (top_of g (value_of g b)))) ∙ tops-by-class g v (values_of classes) m

pub above-from : (width : Width) (classes : List RecordedClass) (v first result : ℕ) (S : List ℕ) → AreClassesOf width classes S → length S < 2 ^ 64 → first ≡ lowest_of (classes_of width) (v + 1)
    → result ≡ min (count_by (leb first) (values_of classes)) (2 ^ 64 - 1) → result ≡ count_above v S
above-from width classes v first result S a few is found =
    let g = classes_of width in
    let m = digits-pos-of width.low width.sigfig in
    let V = values_of classes in
    let same : count_by (λ s. ltb v (top_of g s)) V ≡ count_by (leb first) V =
    sum_by-same (λ s. cond (ltb v (top_of g s)) 1 0) (λ s. cond (leb first s) 1 0) V (λ s. ap {B = ℕ} (λ (b : Bool). cond b 1 0) (ends-same g v s m ∙ ap (λ n. leb n s) (sym is))) in
    let all : length V ≡ length S = alike-long g V a.exact a.alike ∙ sym (ap length a.is ∙ length-map a.exact (top_of g)) in
    omega (arith, found, above-values width classes v S a, same, all, few, count_by-le-length (leb first) V)

none-high : (g : Resolution) (v : ℕ) (L : List ℕ) → All (λ s. top_of g s ≤ v) L → count_by (λ s. ltb v (top_of g s)) L ≡ 0
none-high g v [] all = refl
none-high g v (x ∷ L) all =
    let no : ltb v (top_of g x) ≡ false = (let h = All-head (λ s. top_of g s ≤ v) x L all in grind (arith, nat_tests)) in
    omega (arith, sum_by-cons (λ s. cond (ltb v (top_of g s)) 1 0) x L, ap {B = ℕ} (λ (b : Bool). cond b 1 0) no, none-high g v L (All-tail (λ s. top_of g s ≤ v) x L all))

pub above-greatest : (width : Width) (classes : List RecordedClass) (v : ℕ) (S : List ℕ) → HasScale width.low width.sigfig → AreClassesOf width classes S → 2 ^ 64 ≤ v + 1 → 0 ≡ count_above v S
above-greatest width classes v S scale a last =
    let tops : All (λ s. top_of (classes_of width) s ≤ v) a.exact = λ k d inside. omega (arith, top-fits width.low width.sigfig (get_or a.exact k d) scale (a.fit k d inside), last) in
    sym (ap (count_above v) a.is ∙ above-tops (classes_of width) v a.exact ∙ none-high (classes_of width) v a.exact tops)
