-- Ranks among the nonempty classes of a histogram.
use Rattle.std.proofs.Common.{◌≡◌, ◌∙◌, ℕ, zero, suc, ◌+◌, ◌-◌, ◌<◌, ◌≤◌, true, false, cond, leb, List, [], ◌∷◌, length, map, sum, take, Option, None, Some, MatchOption, refl, ap, sym, arith, inl, inr}
use Rattle.std.specs.List.{sum_by}
use Rattle.std.specs.Option.{option_map}
use Rattle.std.proofs.lemmas.Bool.Decides.{nat_tests}
use Rattle.std.proofs.lemmas.Bool.{cases_lt}
use Rattle.std.proofs.lemmas.List.Sums.{sum_by-cons}
use Rattle.hdr_base.specs.Classes.{Resolution, top_of, value_of}
use Rattle.hdr_model.specs.Merging.{classes_from}
use Rattle.hdr_model.specs.Quantiles.{position_of_rank, value_at_bin}
use Rattle.hdr_model.specs.Recording.{Times}
use Rattle.hdr_model.proofs.MergingKeeps.{eqb-no}
use Rattle.hdr_model.proofs.QuantilesFirst.{found-by-blocks}
use Rattle.hdrhistogram.specs.ClassesRead.{times_of}
use Rattle.hdrhistogram.specs.declared.serialization.class_decoder.RecordedClass.{RecordedClass}

-- ---- the number of samples

times-sum : (g : Resolution) (k : ℕ) (ns : List ℕ) → sum_by (λ (t : Times). t.times) (classes_from g k ns) ≡ sum ns
times-sum g k [] = refl
times-sum g k (zero ∷ ns) = times-sum g (suc k) ns ∙ (let e : sum ns ≡ sum (0 ∷ ns) = omega (arith, sum_by-cons (λ x. x) 0 ns) in e)
times-sum g k (suc n ∷ ns) =
    let one : Times = record { value = value_of g k; times = suc n } in
    omega (arith, sum_by-cons (λ (t : Times). t.times) one (classes_from g (suc k) ns), times-sum g (suc k) ns, sum_by-cons (λ x. x) (suc n) ns)

counts-sum : (classes : List RecordedClass) → sum_by (λ (c : RecordedClass). c.count) classes ≡ sum_by (λ (t : Times). t.times) (map times_of classes)
counts-sum [] = refl
counts-sum (c ∷ classes) = omega (arith, sum_by-cons (λ (c : RecordedClass). c.count) c classes, counts-sum classes, sum_by-cons (λ (t : Times). t.times) (times_of c) (map times_of classes))

-- the counts of the nonempty classes have the sum of all counters
pub classes-sum : (g : Resolution) (counts : List ℕ) (classes : List RecordedClass) → map times_of classes ≡ classes_from g 0 counts → sum_by (λ (c : RecordedClass). c.count) classes ≡ sum counts
classes-sum g counts classes are = counts-sum classes ∙ ap (sum_by (λ (t : Times). t.times)) are ∙ times-sum g 0 counts

-- ---- the class of a rank

-- the lowest value of the class of a rank
abbrev pub found : ℕ → List Times → Option ℕ
found r [] = None
found r (t ∷ ts) = cond (leb r t.times) (Some t.value) (found (r - t.times) ts)

pub found-here : (r : ℕ) (t : Times) (ts : List Times) → r ≤ t.times → found r (t ∷ ts) ≡ Some t.value
found-here r t ts le = ap (λ b. cond b (Some t.value) (found (r - t.times) ts)) (let e : leb r t.times ≡ true = grind (arith, nat_tests) in e)

pub found-later : (r : ℕ) (t : Times) (ts : List Times) → t.times < r → found r (t ∷ ts) ≡ found (r - t.times) ts
found-later r t ts lt = ap (λ b. cond b (Some t.value) (found (r - t.times) ts)) (let e : leb r t.times ≡ false = grind (arith, nat_tests) in e)

-- the sum of the counters reaches a rank first at an index
abbrev IsFirst : List ℕ → ℕ → ℕ → Type 0
IsFirst ns r i = (i < length ns) × (sum (take i ns) < r) × (r ≤ sum (take (i + 1) ns))

-- one more counter before the others
shift : (n r rest : ℕ) (ns : List ℕ) (place : Option ℕ) → r ≡ n + rest → 0 < rest → MatchOption place (sum ns < rest) (IsFirst ns rest) → MatchOption (option_map suc place) (sum (n ∷ ns) < r) (IsFirst (n ∷ ns) r)
shift n r rest ns None is some m = omega (arith, sum_by-cons (λ x. x) n ns, m, is)
shift n r rest ns (Some i) is some m =
    let next : suc i + 1 ≡ suc (i + 1) = omega arith in
    (omega (arith, m.0), omega (arith, m.1, is, sum_by-cons (λ x. x) n (take i ns)), omega (arith, m.2, is, sum_by-cons (λ x. x) n (take (i + 1) ns), ap (λ k. sum (take k (n ∷ ns))) next))

shift-value : (g : Resolution) (k : ℕ) (place : Option ℕ) → option_map (λ i. value_of g (suc k + i)) place ≡ option_map (λ i. value_of g (k + i)) (option_map suc place)
shift-value g k None = refl
shift-value g k (Some i) = ap (λ j. Some (value_of g j)) (let e : suc k + i ≡ k + suc i = omega arith in e)

first-value : (g : Resolution) (place : Option ℕ) → option_map (λ i. value_of g (0 + i)) place ≡ option_map (value_of g) place
first-value g None = refl
first-value g (Some i) = ap (λ j. Some (value_of g j)) (let e : 0 + i ≡ i = omega arith in e)

abbrev class_at : Resolution → ℕ → ℕ → Times
class_at g k n = record { value = value_of g k; times = n }

-- where the class of a rank is
abbrev pub Found : Resolution → ℕ → List ℕ → ℕ → Type 0
Found g k ns r = (place : Option ℕ) × MatchOption place (sum ns < r) (IsFirst ns r) × (found r (classes_from g k ns) ≡ option_map (λ i. value_of g (k + i)) place)

found-in : (g : Resolution) (k : ℕ) (ns : List ℕ) (r : ℕ) → 0 < r → Found g k ns r
found-in g k [] r some = (None, omega arith, refl)
found-in g k (zero ∷ ns) r some =
    let (place, m, e) = found-in g (suc k) ns r some in
    (option_map suc place, shift 0 r r ns place (omega arith) some m, e ∙ shift-value g k place)
found-in g k (suc n ∷ ns) r some = elim (cases_lt (suc n) r) [
  | inl lt ↦ (
      let (place, m, e) = found-in g (suc k) ns (r - suc n) (omega arith) in
      (option_map suc place, shift (suc n) r (r - suc n) ns place (omega arith) (omega arith) m, found-later r (class_at g k (suc n)) (classes_from g (suc k) ns) lt ∙ e ∙ shift-value g k place))
  | inr le ↦ (Some 0, (omega arith, omega arith, omega (arith, le, sum_by-cons (λ x. x) (suc n) [])), found-here r (class_at g k (suc n)) (classes_from g (suc k) ns) le ∙ ap (λ j. Some (value_of g j)) (let e : k ≡ k + 0 = omega arith in e))
]

pub found-is : (g : Resolution) (counts : List ℕ) (r : ℕ) → 0 < r → found r (classes_from g 0 counts) ≡ option_map (value_of g) (position_of_rank counts r)
found-is g counts r some =
    let (place, m, e) = found-in g 0 counts r some in
    e ∙ first-value g place ∙ ap (option_map (value_of g)) (found-by-blocks counts r place some m)

-- ---- the value of a rank

pub value-some : (g : Resolution) (num v : ℕ) (place : Option ℕ) → 0 < num → Some v ≡ option_map (value_of g) place → top_of g v ≡ value_at_bin g num place
value-some g num v None some e = absurd (none e)
  where
    none : ◌≡◌ {A = Option ℕ} (Some v) None → ⊥
    none e = cc
value-some g num v (Some i) some e =
    ap (top_of g) (same e) ∙ sym (ap (λ b. cond b (value_of g i) (top_of g (value_of g i))) (eqb-no num 0 (λ z. omega (arith, z, some))))
  where
    same : ◌≡◌ {A = Option ℕ} (Some v) (Some (value_of g i)) → v ≡ value_of g i
    same e = cc

pub value-none : (g : Resolution) (num : ℕ) (place : Option ℕ) → None ≡ option_map (value_of g) place → 0 ≡ value_at_bin g num place
value-none g num None e = refl
value-none g num (Some i) e = absurd (none e)
  where
    none : ◌≡◌ {A = Option ℕ} None (Some (value_of g i)) → ⊥
    none e = cc
