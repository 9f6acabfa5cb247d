-- No call changes the bounds that classes are made of, or whether the bins may grow.
use Rattle.std.proofs.Common.{◌≡◌, ◌∙◌, ℕ, List, [], ◌∷◌, ◌++◌, Bool, true, false, cond, eqb, refl, ap, inl, inr}
use Rattle.std.proofs.lemmas.Bool.{cases_lt}
use Rattle.hdr_model.specs.Plain.{Plain, resolution, reach, max_of}
use Rattle.hdr_model.specs.Recording.{with_bins_to, with_bins_for, after_add_to_bin, after_record, Times, after_records, after_clear, after_reset}
use Rattle.hdr_model.specs.Correction.{each_times, missing, after_correct}
use Rattle.hdr_model.specs.Merging.{corrections_from, highest_top, after_add_correct, after_add_same_bins, after_add_within, with_room, after_add, same_bins, classes_from, top_class}
use Rattle.hdr_model.proofs.PlainKept.{widened-more, widened-same}
use Rattle.hdr_model.proofs.MergingKeeps.{with_room-more, with_room-same}

pub record Bounds : Type 0 where
  pub low : ℕ
  pub sigfig : ℕ
  pub grows : Bool

pub bounds : Plain → Bounds
bounds h = record { low = h.low; sigfig = h.sigfig; grows = h.auto_resize }

pub same-bounds : (h k : Plain) → bounds h ≡ bounds k → (h.low ≡ k.low) × (h.sigfig ≡ k.sigfig) × (h.auto_resize ≡ k.auto_resize)
unfolding bounds
same-bounds h k e = (ap (λ (b : Bounds). b.low) e, ap (λ (b : Bounds). b.sigfig) e, ap (λ (b : Bounds). b.grows) e)

bounds-widened : (h : Plain) (v : ℕ) → bounds (with_bins_for h v) ≡ bounds h
unfolding bounds with_bins_to
bounds-widened h v = elim (cases_lt (reach h) v) [
  | inl lt ↦ ap (λ (w : Plain). bounds w) (widened-more h v lt)
  | inr le ↦ ap (λ (w : Plain). bounds w) (widened-same h v le)
]

bounds-with_room : (h : Plain) (x : ℕ) → bounds (with_room h x) ≡ bounds h
unfolding bounds with_bins_to
bounds-with_room h x = elim (cases_lt (reach h) x) [
  | inl lt ↦ ap (λ (w : Plain). bounds w) (with_room-more h x lt)
  | inr le ↦ ap (λ (w : Plain). bounds w) (with_room-same h x le)
]

pub bounds-recorded : (greatest : ℕ) (h : Plain) (v n : ℕ) → bounds (after_record greatest h v n) ≡ bounds h
unfolding bounds after_record after_add_to_bin
bounds-recorded greatest h v n = bounds-widened h v

bounds-each : (greatest : ℕ) (h : Plain) (ts : List Times) → bounds (after_records greatest h ts) ≡ bounds h
bounds-each greatest h [] = refl
bounds-each greatest h (t ∷ ts) = bounds-each greatest (after_record greatest h t.value t.times) ts ∙ bounds-recorded greatest h t.value t.times

pub bounds-corrected : (greatest : ℕ) (h : Plain) (v n i : ℕ) → bounds (after_correct greatest h v n i) ≡ bounds h
unfolding after_correct
bounds-corrected greatest h v n i = bounds-each greatest h (each_times n (v ∷ missing v i))

pub bounds-merged_corrected : (greatest : ℕ) (h s : Plain) (i : ℕ) → bounds (after_add_correct greatest h s i) ≡ bounds h
unfolding after_add_correct
bounds-merged_corrected greatest h s i =
    bounds-each greatest (with_bins_for h (highest_top s)) (corrections_from (resolution s) i 0 s.counts) ∙ bounds-widened h (highest_top s)

bounds-taken_in : (greatest : ℕ) (h s : Plain) → bounds (after_add_within greatest h s) ≡ bounds h
unfolding bounds after_add_within after_add_same_bins
bounds-taken_in greatest h s = by_case (same_bins h s)
  where
    by_case : (b : Bool) → bounds (cond b (after_add_same_bins greatest h s) (after_records greatest h (classes_from (resolution s) 0 s.counts ++ top_class (resolution s) s.top_mark))) ≡ bounds h
    by_case true = refl
    by_case false = bounds-each greatest h (classes_from (resolution s) 0 s.counts ++ top_class (resolution s) s.top_mark)

pub bounds-merged : (greatest : ℕ) (h s : Plain) → bounds (after_add greatest h s) ≡ bounds h
unfolding after_add
bounds-merged greatest h s = by_case (eqb s.total 0)
  where
    by_case : (b : Bool) → bounds (cond b h (after_add_within greatest (with_room h (max_of s)) s)) ≡ bounds h
    by_case true = refl
    by_case false = bounds-taken_in greatest (with_room h (max_of s)) s ∙ bounds-with_room h (max_of s)

pub bounds-cleared : (h : Plain) → bounds (after_clear h) ≡ bounds h
unfolding bounds after_clear
bounds-cleared h = refl

pub bounds-restarted : (h : Plain) → bounds (after_reset h) ≡ bounds h
unfolding bounds after_reset
bounds-restarted h = refl
