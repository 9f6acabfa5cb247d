-- The sums of the samples of a histogram, each as an end of its class.
use Rattle.std.proofs.Common.{◌≡◌, ℕ, zero, suc, ◌+◌, ◌*◌, ◌-◌, ◌^◌, ◌<◌, true, cond, min, List, [], ◌∷◌, ◌++◌, length, get_or, map, sum_by, mul_comm, mul-suc, mul-zero, one-mul, add-mul, refl, sym, ap, ◌∙◌, arith, inl, inr}
use Rattle.std.specs.List.{filter, range_with_len}
use Rattle.std.specs.Prelude.{nat_lt}
use Rattle.std.proofs.lemmas.Bool.{cases_lt}
use Rattle.std.proofs.lemmas.Bool.Decides.{nat_tests}
use Rattle.std.proofs.lemmas.List.{length-append, length-map}
use Rattle.std.proofs.lemmas.List.Sums.{sum_by-cons, sum_by-append}
use Rattle.hdr_base.specs.Classes.{Resolution, bin_of, value_of, lowest_of, top_of}
use Rattle.hdr_base.specs.Items.{Item}
use Rattle.hdr_base.proofs.ClassesLaws.{lowest-le, top-of-value}
use Rattle.hdr_base.proofs.ClassesIntervals.{inside-class, bin-equivalent}
use Rattle.hdr_base.proofs.ClassesFiner.{bin-value_of}
use Rattle.hdr_iterators.specs.Seen.{Seen, top_in}
use Rattle.hdr_iterators.specs.Picks.{Pick, item_of, items_from, items_of}
use Rattle.hdr_iterators.specs.Places.{bin_pick, is_nonempty, recorded_picks}
use Rattle.hdr_core.specs.Iterating.{bins_seen}
use Rattle.hdr_model.specs.Plain.{Plain, IsPlain, resolution}
use Rattle.hdr_model.specs.Samples.{StandsFor}
use Rattle.hdr_model.proofs.PlainKept.{resolution-digits}
use Rattle.hdr_model.proofs.MergingStands.{weigh, numbers-weigh, sum_by-same}
use Rattle.hdr_summary.specs.declared.means.SampleSum.{SampleSum}
use Rattle.hdr_summary.specs.Classes.{Known, known, known_by, lowest_in_units, greatest_in_units}
use Rattle.hdr_summary.specs.Means.{IsSumOf, lowest_sum, greatest_sum}

-- what an item weighs: its count times a function of its value
abbrev pub weight : (ℕ → ℕ) → Item → ℕ
weight f item = item.count * f item.value

module _ (h : Seen) (f : ℕ → ℕ) where
  abbrev picked : List ℕ → List Pick
  picked bins = map bin_pick (filter (is_nonempty h) bins)

  -- the items of the bins from k on weigh what the numbers of these bins do
  items-weigh : (from k : ℕ) (ns : List ℕ) → ((i : ℕ) → i < length ns → get_or h.numbers (k + i) 0 ≡ get_or ns i 0)
      → sum_by (weight f) (items_from h from (picked (range_with_len k (length ns)))) ≡ weigh (λ i. f (top_in h i)) k ns
  unfolding weigh
  items-weigh from k [] same = refl
  items-weigh from k (zero ∷ ns) same =
      let here : get_or h.numbers k 0 ≡ 0 = ap (λ i. get_or h.numbers i 0) (let e : k ≡ k + 0 = omega arith in e) ∙ same 0 (omega arith) in
      let rest = items-weigh from (k + 1) ns (λ i lt. ap (λ j. get_or h.numbers j 0) (let e : k + 1 + i ≡ k + suc i = omega arith in e) ∙ same (suc i) (omega arith)) in
      rw here (rest ∙ ap (λ j. weigh (λ i. f (top_in h i)) j ns) (let e : k + 1 ≡ suc k = omega arith in e)
      ∙ (let e : weigh (λ i. f (top_in h i)) (suc k) ns ≡ 0 * f (top_in h k) + weigh (λ i. f (top_in h i)) (suc k) ns = omega arith in e))
  items-weigh from k (suc n ∷ ns) same =
      let here : get_or h.numbers k 0 ≡ suc n = ap (λ i. get_or h.numbers i 0) (let e : k ≡ k + 0 = omega arith in e) ∙ same 0 (omega arith) in
      let rest = items-weigh (k + 1) (k + 1) ns (λ i lt. ap (λ j. get_or h.numbers j 0) (let e : k + 1 + i ≡ k + suc i = omega arith in e) ∙ same (suc i) (omega arith)) in
      let some : nat_lt 0 (get_or h.numbers k 0) ≡ true = ap (λ m. nat_lt 0 m) here ∙ positive n in
      let bins = range_with_len (k + 1) (length ns) in
      let kept : filter (is_nonempty h) (k ∷ bins) ≡ k ∷ filter (is_nonempty h) bins = ap (λ b. cond b (k ∷ filter (is_nonempty h) bins) (filter (is_nonempty h) bins)) some in
      let item = item_of h from (bin_pick k) in
      let later = items_from h (k + 1) (picked bins) in
      let first : weight f item ≡ suc n * f (top_in h k) = ap (λ m. m * f (top_in h k)) here in
      ap (λ l. sum_by (weight f) (items_from h from (map bin_pick l))) kept ∙ sum_by-cons (weight f) item later
      ∙ ap (λ m. m + sum_by (weight f) later) first
      ∙ ap (λ m. suc n * f (top_in h k) + m) (rest ∙ ap (λ j. weigh (λ i. f (top_in h i)) j ns) (let e : k + 1 ≡ suc k = omega arith in e))
    where
      positive : (n : ℕ) → nat_lt 0 (suc n) ≡ true
      positive n = grind (arith, nat_tests)

-- a function of the ends of classes is summed over the samples
module _ (h : Plain) (S : List ℕ) (p : IsPlain (2 ^ 64 - 1) h) (stands : StandsFor h S) where
  abbrev g : Resolution
  g = resolution h

  digits : 0 < g.digits
  digits = resolution-digits (2 ^ 64 - 1) h p

  abbrev items : List Item
  items = items_of (bins_seen h) (recorded_picks (bins_seen h))

  top-is : (x : ℕ) → top_of g (value_of g (bin_of g x)) ≡ top_of g x
  top-is x = (bin-equivalent g (value_of g (bin_of g x)) x digits (bin-value_of g (bin_of g x) digits)).top

  lowest-is : (x : ℕ) → lowest_of g (top_of g x) ≡ lowest_of g x
  lowest-is x = (inside-class g x (top_of g x) digits (omega (arith, lowest-le g x, top-of-value g x)) (omega arith)).lowest

  pub items-sum : (f : ℕ → ℕ) → sum_by (weight f) items ≡ sum_by (λ x. f (top_of g x)) S
  items-sum f =
      let all = items-weigh (bins_seen h) f 0 0 h.counts (λ i lt. ap (λ j. get_or h.counts j 0) (let e : 0 + i ≡ i = omega arith in e)) in
      let same : length h.counts - 0 ≡ length h.counts = omega arith in
      rw same (all ∙ numbers-weigh (2 ^ 64 - 1) h S p stands (λ i. f (top_of g (value_of g i)))
      ∙ sum_by-same (λ x. f (top_of g (value_of g (bin_of g x)))) (λ x. f (top_of g x)) S (λ x. ap f (top-is x)))

  sum-known : (a : ℕ → ℕ) (b : Known → ℕ) (L : List ℕ) → ((s : ℕ) → b (known 1 g s) ≡ a s) → sum_by b (known_by 1 g L) ≡ sum_by a L
  sum-known a b [] e = refl
  sum-known a b (x ∷ L) e = omega (arith, sum_by-cons a x L, sum_by-cons b (known 1 g x) (known_by 1 g L), e x, sum-known a b L e)

  pub greatest-items : sum_by (weight (λ v. v)) items ≡ greatest_sum (known_by 1 g S)
  greatest-items = items-sum (λ v. v) ∙ sym (sum-known (λ s. top_of g s) greatest_in_units S (λ s. one-mul (top_of g s)))

  pub lowest-items : sum_by (weight (lowest_of g)) items ≡ lowest_sum (known_by 1 g S)
  lowest-items =
      items-sum (lowest_of g) ∙ sum_by-same (λ x. lowest_of g (top_of g x)) (λ x. lowest_of g x) S lowest-is
      ∙ sym (sum-known (λ s. lowest_of g s) lowest_in_units S (λ s. one-mul (lowest_of g s)))

-- the sums of samples in units
sum-scaled : (f : ℕ) (g : Resolution) (a : Resolution → ℕ → ℕ) (S : List ℕ)
    → sum_by (λ x. x.factor * a x.resolution x.value) (known_by f g S) ≡ sum_by (λ x. x.factor * a x.resolution x.value) (known_by 1 g S) * f
sum-scaled f g a [] = (let e : 0 ≡ 0 * f = omega arith in e)
sum-scaled f g a (s ∷ S) =
    let of : Known → ℕ = λ x. x.factor * a x.resolution x.value in
    let more = sum_by of (known_by 1 g S) in
    sum_by-cons of (known f g s) (known_by f g S) ∙ ap (λ n. f * a g s + n) (sum-scaled f g a S)
    ∙ (let e : f * a g s + more * f ≡ (1 * a g s + more) * f = omega (arith, mul_comm f (a g s), add-mul (1 * a g s) more f, one-mul (a g s)) in e)
    ∙ ap (λ n. n * f) (sym (sum_by-cons of (known 1 g s) (known_by 1 g S)))

-- what is bounded, times a factor, and bounded again
bounded-times : (n m f : ℕ) → 0 < m → min (min n m * f) m ≡ min (n * f) m
bounded-times n m zero some = omega (arith, mul-zero (min n m), mul-zero n)
bounded-times n m (suc f) some =
    elim (cases_lt m n) [
      | inl lt ↦ (
          let is : min n m ≡ m = omega (arith, lt) in
          rw is (omega (arith, mul-suc m f, mul-suc n f, lt))
          )
      | inr le ↦ (let is : min n m ≡ n = omega (arith, le) in rw is refl)
    ]

pub sum-in-units : (f : ℕ) (g : Resolution) (S : List ℕ) (of new : SampleSum) → IsSumOf of (known_by 1 g S)
    → new.total ≡ of.total → new.low ≡ min (of.low * f) (2 ^ 128 - 1) → new.high ≡ min (of.high * f) (2 ^ 128 - 1)
    → IsSumOf new (known_by f g S)
sum-in-units f g S of new is total low high = record {
  total = omega (arith, total, is.total, length-map {B = Known} S (known 1 g), length-map {B = Known} S (known f g));
  low = low ∙ ap (λ n. min (n * f) (2 ^ 128 - 1)) is.low ∙ bounded-times (lowest_sum (known_by 1 g S)) (2 ^ 128 - 1) f (omega arith)
      ∙ ap (λ n. min n (2 ^ 128 - 1)) (sym (sum-scaled f g lowest_of S));
  high = high ∙ ap (λ n. min (n * f) (2 ^ 128 - 1)) is.high ∙ bounded-times (greatest_sum (known_by 1 g S)) (2 ^ 128 - 1) f (omega arith)
      ∙ ap (λ n. min n (2 ^ 128 - 1)) (sym (sum-scaled f g top_of S));
}

-- the sums of samples and others together
pub sum-joined : (K L : List Known) (old of new : SampleSum) → IsSumOf old K → IsSumOf of L
    → new.total ≡ min (old.total + of.total) (2 ^ 64 - 1) → new.low ≡ min (old.low + of.low) (2 ^ 128 - 1) → new.high ≡ min (old.high + of.high) (2 ^ 128 - 1)
    → IsSumOf new (K ++ L)
sum-joined K L old of new has added total low high = record {
  total = omega (arith, total, has.total, added.total, length-append K L);
  low = omega (arith, low, has.low, added.low, sum_by-append lowest_in_units K L);
  high = omega (arith, high, has.high, added.high, sum_by-append greatest_in_units K L);
}
