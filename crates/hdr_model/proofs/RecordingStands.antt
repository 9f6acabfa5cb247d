-- What a histogram stands for, when values are recorded.
use Rattle.std.proofs.Common.{zero-add, ◌≡◌, ◌≢◌, ℕ, ◌+◌, ◌-◌, ◌^◌, ◌<◌, ◌≤◌, true, false, cond, eqb, min, List, [], ◌∷◌, ◌++◌, length, get_or, replicate, sum_by, refl, sym, ap, ◌∙◌, arith, inl, inr}
use Rattle.std.specs.List.{All, slice_index}
use Rattle.std.proofs.lemmas.Bool.Decides.{nat_tests}
use Rattle.std.proofs.lemmas.Bool.{cases_lt, cases_eq}
use Rattle.std.proofs.lemmas.List.{length-set, length-replicate, length-append, get_or-set_same, get_or-set_other, get_or-replicate, get_or-append_right, get_or_past}
use Rattle.std.proofs.Math.ListN.{get_or-append}
use Rattle.std.proofs.lemmas.List.Sums.{sum_by-append, sum_by-cons}
use Rattle.std.proofs.lemmas.List.Folds.{sum_by-replicate}
use Rattle.std.proofs.lemmas.List.Elements.{All-append, All-replicate, All-weaker, All-head, All-tail}
use Rattle.hdr_base.specs.Classes.{Resolution, bin_of, reach_of, bins_to}
use Rattle.hdr_model.specs.Plain.{Plain, IsPlain, resolution, reach}
use Rattle.hdr_model.specs.Recording.{with_bins_to, after_add_to_bin, after_record}
use Rattle.hdr_model.specs.Samples.{in_class, StandsFor, Fits}
use Rattle.hdr_base.proofs.ClassesReach.{reach-holds, reach-reach}
use Rattle.hdr_model.proofs.PlainKept.{widened-same, widened-more, room-in, room-widened, past-reach}

pub eqb-same : (a : ℕ) → eqb a a ≡ true
eqb-same a = grind (arith, nat_tests)

pub eqb-other : (a b : ℕ) → a ≢ b → eqb a b ≡ false
eqb-other a b h = grind (arith, nat_tests)

-- n more samples of v count in the class of v alone
pub in_class-same : (g : Resolution) (v n : ℕ) (S : List ℕ) → in_class g (bin_of g v) (S ++ replicate n v) ≡ in_class g (bin_of g v) S + n
in_class-same g v n S =
    let f : ℕ → ℕ = λ s. cond (eqb (bin_of g s) (bin_of g v)) 1 0 in
    sum_by-append f S (replicate n v) ∙ ap (λ k. sum_by f S + k) (sum_by-replicate f n v ∙ rw (eqb-same (bin_of g v)) (omega arith))

pub in_class-other : (g : Resolution) (i v n : ℕ) (S : List ℕ) → bin_of g v ≢ i → in_class g i (S ++ replicate n v) ≡ in_class g i S
in_class-other g i v n S other =
    let f : ℕ → ℕ = λ s. cond (eqb (bin_of g s) i) 1 0 in
    sum_by-append f S (replicate n v) ∙ ap (λ k. sum_by f S + k) (sum_by-replicate f n v ∙ rw (eqb-other (bin_of g v) i other) (omega arith)) ∙ (let e : sum_by f S + 0 ≡ sum_by f S = omega arith in e)

-- no sample lies in a class that all samples lie below
pub in_class-none : (g : Resolution) (i : ℕ) (S : List ℕ) → All (λ s. bin_of g s < i) S → in_class g i S ≡ 0
in_class-none g i [] h = refl
in_class-none g i (s ∷ S) h =
    sum_by-cons (λ s. cond (eqb (bin_of g s) i) 1 0) s S
    ∙ (let e : eqb (bin_of g s) i ≡ false = eqb-other (bin_of g s) i (λ same. omega (arith, All-head (λ s. bin_of g s < i) s S h)) in rw (e, zero-add) (in_class-none g i S (All-tail (λ s. bin_of g s < i) s S h)))

past_zeros : (xs : List ℕ) (n i : ℕ) → length xs ≤ i → get_or (xs ++ replicate n 0) i 0 ≡ 0
past_zeros xs n i le =
    get_or-append_right xs (replicate n 0) (length xs) i 0 refl le ∙ elim (cases_lt (i - length xs) n) [
      | inl lt ↦ get_or-replicate n (i - length xs) 0 0 lt
      | inr ge ↦ get_or_past (replicate n 0) (i - length xs) 0 (rw length-replicate ge)
    ]

-- more bins stand for the same samples
pub StandsFor-grown : (greatest : ℕ) (h : Plain) (x : ℕ) (S : List ℕ) → reach h < x → IsPlain greatest h → StandsFor h S → StandsFor (with_bins_to h x) S
unfolding reach with_bins_to
StandsFor-grown greatest h x S past p s = record {
  numbers = λ i lt. elim (cases_lt i (length h.counts)) [
    | inl old ↦ get_or-append h.counts _ 0 i old ∙ s.numbers i old
    | inr new ↦
        past_zeros h.counts (bins_to (resolution h) x - length h.counts) i new
        ∙ sym (in_class-none (resolution h) i S (All-weaker (λ x. x ≤ reach h) (λ x. bin_of (resolution h) x < i) (λ x le. omega (arith, room-in greatest h x p le)) S s.within))
  ];
  within = All-weaker (λ y. y ≤ reach h) (λ y. y ≤ reach_of (resolution h) x) (λ y le. omega (arith, reach-holds (resolution h) x)) S s.within;
  total = s.total;
}

pub StandsFor-added : (greatest : ℕ) (h : Plain) (v n : ℕ) (S : List ℕ) → v ≤ reach h → bin_of (resolution h) v < length h.counts → StandsFor h S
    → Fits greatest (resolution h) (S ++ replicate n v) → StandsFor (after_add_to_bin greatest h (bin_of (resolution h) v) n) (S ++ replicate n v)
unfolding after_add_to_bin reach
StandsFor-added greatest h v n S le room s fits = record {
  numbers = λ i lt. elim (cases_eq (bin_of (resolution h) v) i) [
    | inl same ↦
        (let bound : min (slice_index h.counts (bin_of (resolution h) v) + n) greatest ≡ in_class (resolution h) (bin_of (resolution h) v) S + n =
        omega (arith, s.numbers (bin_of (resolution h) v) room, fits.in_classes (bin_of (resolution h) v), in_class-same (resolution h) v n S) in
        rw (← same) (rw get_or-set_same (bound ∙ sym (in_class-same (resolution h) v n S))))
    | inr other ↦
        get_or-set_other h.counts (bin_of (resolution h) v) i _ 0 (λ e. other (sym e)) ∙ s.numbers i (rw length-set at lt) ∙ sym (in_class-other (resolution h) i v n S other)
  ];
  within = All-append (λ x. x ≤ reach h) S (replicate n v) s.within (All-replicate (λ x. x ≤ reach h) n v le);
  total = (let l : length (S ++ replicate n v) ≡ length S + n = simp (length-append, length-replicate) refl in omega (arith, s.total, fits.in_all));
}

pub reach-grown : (h : Plain) (v : ℕ) → v ≤ reach (with_bins_to h (reach_of (resolution h) v))
unfolding reach with_bins_to
reach-grown h v = omega (arith, reach-holds (resolution h) v, reach-reach (resolution h) v)

-- recording takes what the histogram stands for to that and n more of the value
pub StandsFor-recorded : (greatest : ℕ) (h : Plain) (v n : ℕ) (S : List ℕ) → v < 2 ^ 64 → IsPlain greatest h → StandsFor h S
    → Fits greatest (resolution h) (S ++ replicate n v) → StandsFor (after_record greatest h v n) (S ++ replicate n v)
unfolding after_record reach with_bins_to
StandsFor-recorded greatest h v n S small p s fits =
    elim (cases_lt (reach h) v) [
      | inl past ↦ (
          let x = reach_of (resolution h) v in
          let wide = StandsFor-grown greatest h x S (past-reach greatest h v p past) p s in
          let room = room-widened greatest h v p small past in
          rw (widened-more h v past) (StandsFor-added greatest (with_bins_to h x) v n S (reach-grown h v) room wide fits)
          )
      | inr le ↦ rw (widened-same h v le) (StandsFor-added greatest h v n S le (room-in greatest h v p le) s fits)
    ]
