-- What clamping and clearing keep.
use Rattle.std.proofs.Common.{◌≡◌, ◌≢◌, ℕ, zero, suc, ◌∷◌, ◌++◌, ◌+◌, ◌-◌, ◌^◌, ◌<◌, ◌≤◌, Bool, true, false, cond, eqb, ltb, None, Some, List, [], length, get_or, replicate, sum, refl, sym, ap, ◌∙◌, arith, inl, inr}
use Rattle.std.specs.Prelude.{◌||◌}
use Rattle.std.proofs.lemmas.Bool.Decides.{nat_tests}
use Rattle.std.proofs.lemmas.Bool.{cases_lt}
use Rattle.std.proofs.lemmas.List.{length-replicate, length-append}
use Rattle.std.proofs.lemmas.List.Elements.{All-replicate, All-nil}
use Rattle.std.proofs.lemmas.List.Folds.{sum_by-replicate}
use Rattle.std.proofs.lemmas.List.Sums.{sum_by-cons}
use Rattle.hdr_base.specs.Classes.{resolution_of, top_of, value_of, bins_to}
use Rattle.hdr_base.proofs.ClassesReach.{reach-holds}
use Rattle.hdr_model.specs.Plain.{Plain, IsPlain, resolution, reach, empty_plain, max_of, min_nz_of, min_of}
use Rattle.hdr_model.specs.Marks.{top_of_mark, value_of_mark}
use Rattle.hdr_model.specs.Recording.{with_bins_to, with_bins_for, after_add_to_bin, after_record, clamp_to_bins, after_clear, after_reset, clamp}
use Rattle.hdr_model.specs.Merging.{with_room}
use Rattle.hdr_model.specs.Samples.{StandsFor}
use Rattle.hdr_model.proofs.PlainKept.{leb-no, leb-yes, zeros-behind, widened-same}

pub IsPlain-cleared : (greatest : ℕ) (h : Plain) → IsPlain greatest h → IsPlain greatest (after_clear h)
unfolding after_clear
IsPlain-cleared greatest h p = record {
  scale = p.scale;
  high_fits = p.high_fits;
  wide = p.wide;
  bins = length-replicate (length h.counts) 0 ∙ p.bins;
  numbers_fit = All-replicate (λ n. n ≤ greatest) (length h.counts) 0 (omega arith);
  total_fits = omega arith;
  total_covers = omega (arith, sum_by-replicate (λ x. x) (length h.counts) 0);
  empty = λ e. omega (arith, sum_by-replicate (λ x. x) (length h.counts) 0);
  nothing = λ e. refl;
  top_in_bins = rw length-replicate p.top_in_bins;
  lower_in_bins = rw length-replicate p.lower_in_bins;
  none_above = λ i above. zeros-behind [] (length h.counts) i;
  none_below = λ i below. zeros-behind [] (length h.counts) i;
}

pub cleared-parts : (h : Plain) (counts : List ℕ) → counts ≡ replicate (length h.counts) 0 → record h { counts = counts; total = 0 } ≡ after_clear h
unfolding after_clear
cleared-parts h counts e = rw e refl

zeros-all : (ns : List ℕ) → sum ns ≡ 0 → ns ≡ replicate (length ns) 0
zeros-all [] e = refl
zeros-all (n ∷ ns) e =
    let s = sum_by-cons (λ m. m) n ns in
    let first : n ≡ 0 = omega (arith, s) in
    ap (λ m. m ∷ ns) first ∙ ap (λ l. 0 ∷ l) (zeros-all ns (omega (arith, s)))

-- if nothing is counted there is nothing to clear
pub cleared-none : (greatest : ℕ) (h : Plain) → IsPlain greatest h → h.total ≡ 0 → h ≡ after_clear h
cleared-none greatest h p none =
    let same : h ≡ record h { counts = h.counts; total = 0 } = ap (λ t. record h { counts = h.counts; total = t }) none in
    same ∙ cleared-parts h h.counts (zeros-all h.counts (p.empty none))

pub IsPlain-unmarked : (greatest : ℕ) (h k : Plain) → k ≡ after_clear h → IsPlain greatest k → IsPlain greatest (record k { top_mark = None; lower_mark = None })
unfolding after_clear
IsPlain-unmarked greatest h k e p = record {
  scale = p.scale;
  high_fits = p.high_fits;
  wide = p.wide;
  bins = p.bins;
  numbers_fit = p.numbers_fit;
  total_fits = p.total_fits;
  total_covers = p.total_covers;
  empty = p.empty;
  nothing = p.nothing;
  top_in_bins = tt;
  lower_in_bins = tt;
  none_above = λ i above. rw e (zeros-behind [] (length h.counts) i);
  none_below = λ i below. rw e (zeros-behind [] (length h.counts) i);
}

pub restarted-parts : (h k : Plain) → k ≡ after_clear h → record k { top_mark = None; lower_mark = None } ≡ after_reset h
unfolding after_clear after_reset
restarted-parts h k e = rw e refl

-- the value that is recorded if the bins may not grow is within the reach
pub clamped-same : (h : Plain) (v : ℕ) → v ≤ reach h → clamp_to_bins h v ≡ v
unfolding clamp_to_bins
clamped-same h v le = rw (leb-yes v (reach h) le) refl

pub clamped-past : (h : Plain) (v : ℕ) → reach h < v → clamp_to_bins h v ≡ h.high
unfolding clamp_to_bins
clamped-past h v lt = rw (leb-no v (reach h) lt) refl

pub high-within : (h : Plain) → h.high ≤ reach h
unfolding reach
high-within h = reach-holds (resolution h) h.high

pub clamped-small : (greatest : ℕ) (h : Plain) (v : ℕ) → v < 2 ^ 64 → IsPlain greatest h → clamp_to_bins h v < 2 ^ 64
clamped-small greatest h v small p =
    elim (cases_lt (reach h) v) [
      | inl past ↦ omega (arith, clamped-past h v past, p.high_fits)
      | inr le ↦ omega (arith, clamped-same h v le)
    ]

pub clamped-within : (h : Plain) (v : ℕ) → clamp_to_bins h v ≤ reach h
clamped-within h v =
    elim (cases_lt (reach h) v) [
      | inl past ↦ omega (arith, clamped-past h v past, high-within h)
      | inr le ↦ omega (arith, clamped-same h v le)
    ]

pub clamped-is : (h : Plain) (v : ℕ) → clamp_to_bins h v ≡ clamp (resolution h) h.high v
unfolding clamp_to_bins reach clamp
clamped-is h v = refl

pub high-clamped : (greatest : ℕ) (h : Plain) (v n : ℕ) → (after_record greatest h (clamp_to_bins h v) n).high ≡ h.high
unfolding after_record after_add_to_bin with_bins_for
high-clamped greatest h v n = ap (λ (w : Plain). w.high) (widened-same h (clamp_to_bins h v) (clamped-within h v))

-- a histogram in which nothing is counted stands for no samples
pub stands-cleared : (h : Plain) → StandsFor (after_clear h) []
unfolding after_clear
stands-cleared h = record { numbers = λ i lt. zeros-behind [] (length h.counts) i; within = All-nil (λ s. s ≤ reach (after_clear h)); total = refl }

pub stands-restarted : (h : Plain) → StandsFor (after_reset h) []
unfolding after_reset
stands-restarted h = record { numbers = λ i lt. zeros-behind [] (length h.counts) i; within = All-nil (λ s. s ≤ reach (after_reset h)); total = refl }

pub stands-made : (low high sigfig : ℕ) (auto_resize : Bool) → StandsFor (empty_plain low high sigfig auto_resize) []
unfolding empty_plain
stands-made low high sigfig auto_resize =
    record { numbers = λ i lt. zeros-behind [] (bins_to (resolution_of low sigfig) high) i; within = All-nil (λ s. s ≤ reach (empty_plain low high sigfig auto_resize)); total = refl }

pub resolution-cleared : (h : Plain) → resolution (after_clear h) ≡ resolution h
unfolding after_clear
resolution-cleared h = refl

pub resolution-restarted : (h : Plain) → resolution (after_reset h) ≡ resolution h
unfolding after_reset
resolution-restarted h = refl

pub high-cleared : (h : Plain) → (after_clear h).high ≡ h.high
unfolding after_clear
high-cleared h = refl

pub high-restarted : (h : Plain) → (after_reset h).high ≡ h.high
unfolding after_reset
high-restarted h = refl

pub reach-restarted : (h : Plain) → reach (after_reset h) ≡ reach h
unfolding after_reset reach
reach-restarted h = refl

-- the values of marks
pub max-marked : (h : Plain) (i : ℕ) → h.top_mark ≡ Some i → top_of (resolution h) (value_of (resolution h) i) ≡ max_of h
unfolding max_of
max-marked h i e = sym (ap (λ o. top_of_mark (resolution h) o) e)

pub max-unmarked : (h : Plain) → h.top_mark ≡ None → 0 ≡ max_of h
unfolding max_of
max-unmarked h e = sym (ap (λ o. top_of_mark (resolution h) o) e)

pub min_nz-marked : (h : Plain) (i : ℕ) → h.lower_mark ≡ Some i → value_of (resolution h) i ≡ min_nz_of h
unfolding min_nz_of
min_nz-marked h i e = sym (ap (λ o. value_of_mark (resolution h) o) e)

pub min_nz-unmarked : (h : Plain) → h.lower_mark ≡ None → 2 ^ 64 - 1 ≡ min_nz_of h
unfolding min_nz_of
min_nz-unmarked h e = sym (ap (λ o. value_of_mark (resolution h) o) e)

pub min-empty : (h : Plain) → h.total ≡ 0 → 0 ≡ min_of h
unfolding min_of
min-empty h e =
    let test : eqb h.total 0 ≡ true = grind (arith, nat_tests) in
    rw test refl

pub min-first : (h : Plain) → 0 < get_or h.counts 0 0 → 0 ≡ min_of h
unfolding min_of
min-first h lt =
    let test : ltb 0 (get_or h.counts 0 0) ≡ true = grind (arith, nat_tests) in
    let step : (b : Bool) → 0 ≡ cond (b || ltb 0 (get_or h.counts 0 0)) 0 (min_nz_of h) =
    λ b. elim b as (λ b. 0 ≡ cond (b || ltb 0 (get_or h.counts 0 0)) 0 (min_nz_of h)) [ true ↦ refl | false ↦ rw test refl ] in
    step (eqb h.total 0)

pub min-later : (h : Plain) → h.total ≢ 0 → get_or h.counts 0 0 ≡ 0 → min_nz_of h ≡ min_of h
unfolding min_of
min-later h some none =
    let a : eqb h.total 0 ≡ false = grind (arith, nat_tests) in
    let b : ltb 0 (get_or h.counts 0 0) ≡ false = grind (arith, nat_tests) in
    rw (a, b) refl

pub ltb-none : (n : ℕ) → ltb 0 n ≡ false → n ≡ 0
ltb-none n e = grind (arith, nat_tests)

-- growing and clearing commute
two-runs : (a b : ℕ) → replicate {A = ℕ} a 0 ++ replicate {A = ℕ} b 0 ≡ replicate {A = ℕ} (a + b) 0
two-runs zero b = ap (λ n. replicate {A = ℕ} n 0) (let e : b ≡ 0 + b = omega arith in e)
two-runs (suc a) b =
    ap (λ xs. 0 ∷ xs) (two-runs a b) ∙ ap (λ n. replicate {A = ℕ} n 0) (let e : suc (a + b) ≡ suc a + b = omega arith in e)

grown-zeros : (xs : List ℕ) (b : ℕ) → replicate {A = ℕ} (length (xs ++ replicate {A = ℕ} (b - length xs) 0)) 0 ≡ replicate {A = ℕ} (length xs) 0 ++ replicate {A = ℕ} (b - length (replicate {A = ℕ} (length xs) 0)) 0
grown-zeros xs b =
    ap (λ n. replicate {A = ℕ} n 0) (length-append xs (replicate {A = ℕ} (b - length xs) 0) ∙ ap (λ n. length xs + n) (length-replicate {A = ℕ} (b - length xs) 0))
    ∙ sym (two-runs (length xs) (b - length xs))
    ∙ ap (λ k. replicate {A = ℕ} (length xs) 0 ++ replicate {A = ℕ} (b - k) 0) (sym (length-replicate {A = ℕ} (length xs) 0))

pub restarted-grown : (h : Plain) (x : ℕ) → after_reset (with_bins_to h x) ≡ with_bins_to (after_reset h) x
unfolding after_reset with_bins_to
restarted-grown h x = ap (λ ns. record (after_reset h) { high = x; counts = ns }) (grown-zeros h.counts (bins_to (resolution h) x))

pub restarted-room : (h : Plain) (x : ℕ) → after_reset (with_room h x) ≡ with_room (after_reset h) x
unfolding with_room
restarted-room h x = elim (cases_lt (reach h) x) [
  | inl lt ↦ rw (leb-no x (reach h) lt, leb-no x (reach (after_reset h)) (omega (arith, lt, reach-restarted h))) (restarted-grown h x)
  | inr le ↦ rw (leb-yes x (reach h) le, leb-yes x (reach (after_reset h)) (omega (arith, le, reach-restarted h))) refl
]
