-- Correction, one class at a time.
use Rattle.std.proofs.Common.{◌≡◌, ◌≢◌, ℕ, ◌+◌, ◌-◌, ◌*◌, ◌/◌, ◌^◌, ◌<◌, ◌≤◌, leb, max, List, [], ◌∷◌, ◌++◌, length, refl, sym, ap, ◌∙◌, arith, inl, inr}
use Rattle.std.specs.List.{All}
use Rattle.std.proofs.lemmas.Bool.{cases_lt}
use Rattle.std.proofs.lemmas.Bool.Decides.{nat_tests}
use Rattle.std.proofs.lemmas.Nat.{div-add-mod', mod_below}
use Rattle.std.proofs.lemmas.List.Elements.{All-weaker, All-nil, All-cons, All-head, All-tail}
use Rattle.std.proofs.Math.Nat.{pow-le-pow_right}
use Rattle.hdr_base.specs.Classes.{Resolution, bin_of, lowest_of, digits_of, resolution_of, reach_of, bins_to}
use Rattle.hdr_base.proofs.ClassesLeast.{least_from-le}
use Rattle.hdr_base.proofs.ClassesScale.{bin-bound}
use Rattle.hdr_base.proofs.ClassesReach.{reach-fits, reach-holds}
use Rattle.hdr_model.proofs.PlainKept.{resolution-digits, resolution-fits, leb-no, leb-yes}
use Rattle.hdr_base.proofs.ClassesLaws.{lowest-le, top-above, same-bin, bin-lowest}
use Rattle.hdr_model.specs.Plain.{Plain, IsPlain, resolution, reach}
use Rattle.hdr_model.specs.Recording.{Times, with_bins_to, with_bins_for, after_add_to_bin, after_record, after_records, high_with}
use Rattle.hdr_model.specs.Correction.{each_times, classes_held, missing, down_to, after_correct}
use Rattle.hdr_model.proofs.MergingKeeps.{recorded_each-append}
use Rattle.hdr_model.proofs.CorrectionFacts.{missing-within, falling, length-falling, falling-within, down_to-split, down_to-within}
use Rattle.hdr_model.proofs.RecordingFills.{one-class}
use Rattle.hdr_model.proofs.CorrectionClasses.{held-more}
use Rattle.hdr_model.proofs.MergingStands.{resolution-each, each-high, recorded-high_with}

pub each-append : (n : ℕ) (xs ys : List ℕ) → each_times n (xs ++ ys) ≡ each_times n xs ++ each_times n ys
each-append n [] ys = refl
each-append n (x ∷ xs) ys = ap (λ ts. record { value = x; times = n } ∷ ts) (each-append n xs ys)

pub each-within : (r n : ℕ) (xs : List ℕ) → All (λ x. x ≤ r) xs → All (λ (t : Times). t.value ≤ r) (each_times n xs)
each-within r n [] h = All-nil (λ (t : Times). t.value ≤ r)
each-within r n (x ∷ xs) h =
    All-cons (λ (t : Times). t.value ≤ r) (record { value = x; times = n }) (each_times n xs) (All-head (λ x. x ≤ r) x xs h) (each-within r n xs (All-tail (λ x. x ≤ r) x xs h))

-- the members of the class of x from x down are m in number, and the values after them lie in other classes
module _ (g : Resolution) (x i low m : ℕ) (pos : 0 < i) (digits : 0 < g.digits) (ge : i ≤ x) (is_low : low ≡ max (lowest_of g x) i) (is_m : m ≡ (x - low) / i + 1) where
  pub low-le : low ≤ x
  low-le = omega (arith, lowest-le g x)

  length-as-product : m * i ≡ (x - low) / i * i + i
  length-as-product = ap (λ k. k * i) is_m ∙ (let e : ((x - low) / i + 1) * i ≡ (x - low) / i * i + i = omega arith in e)

  pub members-fit : m * i ≤ x
  members-fit = omega (arith, low-le, length-as-product, div-add-mod' (x - low) i)

  members-last : low + m * i ≤ x + i
  members-last = omega (arith, low-le, length-as-product, div-add-mod' (x - low) i)

  others-below : x - m * i < low
  others-below = omega (arith, low-le, length-as-product, div-add-mod' (x - low) i, mod_below (x - low) i pos)

  pub members-inside : All (λ y. (bin_of g y ≡ bin_of g x) × (y ≤ x)) (falling i m x)
  members-inside =
      All-weaker (λ y. (low ≤ y) × (y ≤ x)) (λ y. (bin_of g y ≡ bin_of g x) × (y ≤ x))
      (λ y h. (same-bin g x y digits (omega (arith, h)) (omega (arith, h, top-above g x)), h.1))
      (falling i m x) (falling-within low x i m x members-last (omega arith))

  pub others-outside : All (λ y. bin_of g y ≢ bin_of g x) (down_to (x - m * i) i)
  others-outside =
      All-weaker (λ y. (i ≤ y) × (y ≤ x - m * i)) (λ y. bin_of g y ≢ bin_of g x)
      (λ y h same. absurd (omega (arith, h, others-below, bin-lowest g y x digits same, lowest-le g y)))
      (down_to (x - m * i) i) (down_to-within (x - m * i) i pos)

  -- one class more
  pub held-step : (classes : ℕ) → bin_of g x < classes → classes_held g classes (down_to x i) ≡ 1 + classes_held g classes (down_to (x - m * i) i)
  held-step classes room =
      ap (λ ys. classes_held g classes ys) (down_to-split m x i pos members-fit)
      ∙ held-more g classes (bin_of g x) (falling i m x) (down_to (x - m * i) i) room (omega (arith, length-falling i m x))
      (All-weaker (λ y. (bin_of g y ≡ bin_of g x) × (y ≤ x)) (λ y. bin_of g y ≡ bin_of g x) (λ y h. h.0) (falling i m x) members-inside) others-outside

-- adding the number of a class's members times n is recording them one by one
pub state-step : (greatest : ℕ) (h : Plain) (x i low m n : ℕ) → 0 < i → 0 < (resolution h).digits → i ≤ x → low ≡ max (lowest_of (resolution h) x) i → m ≡ (x - low) / i + 1
    → x ≤ reach h → bin_of (resolution h) x < length h.counts
    → after_records greatest (after_add_to_bin greatest h (bin_of (resolution h) x) (m * n)) (each_times n (down_to (x - m * i) i)) ≡ after_records greatest h (each_times n (down_to x i))
state-step greatest h x i low m n pos digits ge is_low is_m within room =
    let g = resolution h in
    let b = bin_of g x in
    let fits = members-fit g x i low m pos digits ge is_low is_m in
    let inside = members-inside g x i low m pos digits ge is_low is_m in
    let members : All (λ y. (bin_of g y ≡ b) × (y ≤ reach h)) (falling i m x) =
    All-weaker (λ y. (bin_of g y ≡ b) × (y ≤ x)) (λ y. (bin_of g y ≡ b) × (y ≤ reach h)) (λ y p. (p.0, omega (arith, p.1))) (falling i m x) inside in
    sym (
    ap (λ ys. after_records greatest h (each_times n ys)) (down_to-split m x i pos fits)
    ∙ ap (λ ts. after_records greatest h ts) (each-append n (falling i m x) (down_to (x - m * i) i))
    ∙ recorded_each-append greatest h (each_times n (falling i m x)) (each_times n (down_to (x - m * i) i))
    ∙ ap (λ s. after_records greatest s (each_times n (down_to (x - m * i) i)))
    (one-class greatest h b n (falling i m x) (omega (arith, length-falling i m x)) room members
    ∙ ap (λ k. after_add_to_bin greatest h b (k * n)) (length-falling i m x))
    )

-- a histogram has few bins
digits-few : (s : ℕ) → s ≤ 5 → digits_of s ≤ 18
unfolding digits_of
digits-few s le =
    let n = 2 * 10 ^ s in
    let test = λ (m : ℕ). leb n (2 ^ m) in
    let ten : 10 ^ s ≤ 10 ^ 5 = pow-le-pow_right (omega arith) le in
    let enough : n ≤ 2 ^ 18 = omega arith in
    least_from-le test n 0 18 (omega arith) (grind (arith, nat_tests))

pub bins-few : (greatest : ℕ) (h : Plain) → IsPlain greatest h → length h.counts ≤ 2 ^ 24
unfolding bins_to resolution_of
bins-few greatest h p =
    omega (arith, p.bins, bin-bound (resolution h) (reach_of (resolution h) h.high) (reach-fits (resolution h) h.high p.high_fits (resolution-fits greatest h p)) (resolution-fits greatest h p) (resolution-digits greatest h p) (digits-few h.sigfig p.scale.digits))

-- a value has a bin once it was recorded
pub recorded-holds : (greatest : ℕ) (h : Plain) (v n : ℕ) → v ≤ reach (after_record greatest h v n)
unfolding after_record after_add_to_bin with_bins_for reach with_bins_to
recorded-holds greatest h v n = elim (cases_lt (reach h) v) [
  | inl lt ↦ (let no = leb-no v (reach_of (resolution h) h.high) lt in let k : v ≤ reach_of (resolution h) (reach_of (resolution h) v) = omega (arith, reach-holds (resolution h) v, reach-holds (resolution h) (reach_of (resolution h) v)) in rw no k)
  | inr le ↦ rw (leb-yes v (reach_of (resolution h) h.high) le) le
]

-- a value that has a bin, and its missing values, are recorded without growing
pub high-corrected : (greatest : ℕ) (h : Plain) (v n i : ℕ) → (after_correct greatest h v n i).high ≡ high_with (resolution h) h.high v (reach_of (resolution h) v)
unfolding after_correct
high-corrected greatest h v n i =
    let w = after_record greatest h v n in
    let holds = recorded-holds greatest h v n in
    let few : All (λ x. x ≤ reach w) (missing v i) = missing-within v i (reach w) holds in
    each-high greatest w (each_times n (missing v i)) (each-within (reach w) n (missing v i) few) ∙ recorded-high_with greatest h v n

pub resolution-corrected : (greatest : ℕ) (h : Plain) (v n i : ℕ) → resolution (after_correct greatest h v n i) ≡ resolution h
unfolding after_correct
resolution-corrected greatest h v n i = resolution-each greatest h (each_times n (v ∷ missing v i))
