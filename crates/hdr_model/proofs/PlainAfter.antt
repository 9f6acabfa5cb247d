-- What each call makes of a histogram is one again.
use Rattle.std.proofs.Common.{◌≡◌, ℕ, ◌^◌, ◌<◌, ◌≤◌, Bool, true, false, ◌∷◌, ◌++◌, length, refl, sym, subst, arith, inl, inr}
use Rattle.std.specs.List.{All}
use Rattle.std.proofs.lemmas.Bool.{cases_lt}
use Rattle.std.proofs.lemmas.List.Elements.{All-cons}
use Rattle.hdr_base.specs.Classes.{Resolution, bin_of}
use Rattle.hdr_model.specs.Plain.{Plain, IsPlain, resolution, reach, max_of}
use Rattle.hdr_model.specs.Recording.{with_bins_for, after_record, after_records, after_clear, after_reset}
use Rattle.hdr_model.specs.Correction.{missing, each_times, after_correct}
use Rattle.hdr_model.specs.Merging.{highest_top, after_add_correct, corrections_from, same_bins, after_add_same_bins, after_add_within, with_room, after_add, classes_from, top_class}
use Rattle.hdr_model.proofs.PlainKept.{IsPlain-added, room-in}
use Rattle.hdr_model.proofs.CorrectionFacts.{missing-within}
use Rattle.hdr_model.proofs.MergingStands.{classes-inside}
use Rattle.hdr_model.proofs.MergingKeeps.{same-bins, IsPlain-taken, IsPlain-summed, joined-empty, joined-some, taken-same, taken-other, merged-none, merged-some, with_room-reach}
use Rattle.hdr_model.proofs.CorrectionByClass.{each-within}
use Rattle.hdr_model.proofs.RecordingClears.{IsPlain-cleared, IsPlain-unmarked, restarted-parts}
use Rattle.hdr_model.proofs.MergingCorrects.{IsPlain-widened, resolution-widened, widened-holds, recorded-from, corrected-inside}
use Rattle.hdr_model.proofs.MergingOrder.{IsPlain-each, IsPlain-room, max-small, highest-small}

pub IsPlain-recorded : (greatest : ℕ) (h : Plain) (v n : ℕ) → 1 ≤ greatest → v < 2 ^ 64 → IsPlain greatest h → IsPlain greatest (after_record greatest h v n)
unfolding after_record
IsPlain-recorded greatest h v n one small p =
    let w = with_bins_for h v in
    let q = IsPlain-widened greatest h v small p in
    let room : bin_of (resolution h) v < length w.counts = subst (λ (g : Resolution). bin_of g v < length w.counts) (resolution-widened h v) (room-in greatest w v q (widened-holds h v)) in
    IsPlain-added greatest w (bin_of (resolution h) v) n one room q

pub IsPlain-corrected : (greatest : ℕ) (h : Plain) (v n i : ℕ) → 1 ≤ greatest → v < 2 ^ 64 → IsPlain greatest h → IsPlain greatest (after_correct greatest h v n i)
unfolding after_correct
IsPlain-corrected greatest h v n i one small p =
    let w = with_bins_for h v in
    let holds = widened-holds h v in
    let within : All (λ x. x ≤ reach w) (v ∷ missing v i) = All-cons (λ x. x ≤ reach w) v (missing v i) holds (missing-within v i (reach w) holds) in
    subst (λ (x : Plain). IsPlain greatest (after_records greatest x (each_times n (missing v i)))) (recorded-from greatest h v n)
    (IsPlain-each greatest w (each_times n (v ∷ missing v i)) one (IsPlain-widened greatest h v small p) (each-within (reach w) n (v ∷ missing v i) within))

pub IsPlain-restarted : (greatest : ℕ) (h : Plain) → IsPlain greatest h → IsPlain greatest (after_reset h)
IsPlain-restarted greatest h p =
    subst (λ (w : Plain). IsPlain greatest w) (restarted-parts h (after_clear h) refl) (IsPlain-unmarked greatest h (after_clear h) refl (IsPlain-cleared greatest h p))

IsPlain-joined : (greatest most : ℕ) (h s : Plain) → 1 ≤ greatest → IsPlain greatest h → IsPlain most s → length h.counts ≡ length s.counts → IsPlain greatest (after_add_same_bins greatest h s)
IsPlain-joined greatest most h s one p q same = elim (cases_lt 0 h.total) [
  | inl pos ↦ subst (λ (w : Plain). IsPlain greatest w) (joined-some greatest h s (λ e. omega arith)) (IsPlain-summed greatest most h s one same p q (λ e. omega arith))
  | inr none ↦ subst (λ (w : Plain). IsPlain greatest w) (joined-empty greatest h s (omega arith)) (IsPlain-taken greatest most h s one same p q (omega arith))
]

IsPlain-taken_in : (greatest most : ℕ) (h s : Plain) → 1 ≤ greatest → IsPlain greatest h → IsPlain most s → max_of s ≤ reach h → IsPlain greatest (after_add_within greatest h s)
IsPlain-taken_in greatest most h s one p q room = go (same_bins h s) refl
  where
    go : (b : Bool) → same_bins h s ≡ b → IsPlain greatest (after_add_within greatest h s)
    go true e = subst (λ (w : Plain). IsPlain greatest w) (taken-same greatest h s e) (IsPlain-joined greatest most h s one p q (same-bins h s e).1)
    go false e =
        subst (λ (w : Plain). IsPlain greatest w) (taken-other greatest h s e)
        (IsPlain-each greatest h (classes_from (resolution s) 0 s.counts ++ top_class (resolution s) s.top_mark) one p (classes-inside most s (reach h) q room))

pub IsPlain-merged : (greatest most : ℕ) (h s : Plain) → 1 ≤ greatest → IsPlain greatest h → IsPlain most s → IsPlain greatest (after_add greatest h s)
IsPlain-merged greatest most h s one p q = elim (cases_lt 0 s.total) [
  | inl pos ↦ (
      let m = max_of s in
      subst (λ (w : Plain). IsPlain greatest w) (sym (merged-some greatest h s (λ e. omega arith)))
      (IsPlain-taken_in greatest most (with_room h m) s one (IsPlain-room greatest h m (max-small most s q) p) q (with_room-reach h m))
      )
  | inr none ↦ subst (λ (w : Plain). IsPlain greatest w) (sym (merged-none greatest h s (omega arith))) p
]

pub IsPlain-merged_corrected : (greatest most : ℕ) (h s : Plain) (i : ℕ) → 1 ≤ greatest → IsPlain greatest h → IsPlain most s → IsPlain greatest (after_add_correct greatest h s i)
unfolding after_add_correct
IsPlain-merged_corrected greatest most h s i one p q =
    let w = with_bins_for h (highest_top s) in
    IsPlain-each greatest w (corrections_from (resolution s) i 0 s.counts) one (IsPlain-widened greatest h (highest_top s) (highest-small most s q) p)
    (corrected-inside s i (reach w) (widened-holds h (highest_top s)))
