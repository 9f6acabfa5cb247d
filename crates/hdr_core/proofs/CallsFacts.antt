-- One call keeps what is true of every histogram, and takes what it stands for to what the call makes of it.
use Rattle.std.proofs.Common.{◌≡◌, ℕ, ◌≤◌, Result, Ok, Err, OnOk, IfErr, cond, eqb, List, ◌++◌, length, replicate, sym, ap, subst, ◌∙◌}
use Rattle.hdr_base.specs.Classes.{Resolution, reach_of}
use Rattle.hdr_model.specs.Plain.{Plain, IsPlain, resolution, max_of}
use Rattle.hdr_model.specs.Recording.{clamp_to_bins, high_with, clamp}
use Rattle.hdr_model.specs.Merging.{highest_top}
use Rattle.hdr_model.specs.Samples.{StandsFor, Fits}
use Rattle.hdr_core.specs.Calls.{after_call, CallTo, IsCallOf}
use Rattle.hdr_model.specs.Runs.{StandsAt, StandsWhereFits, State}
use Rattle.hdr_core.specs.declared.call.Call.{Call}
use Rattle.hdr_core.specs.declared.call.Call.TheVariants.{Record, Clamp, Correct, Clear, Reset, Add, AddCorrect}
use Rattle.hdr_model.proofs.PlainBounds.{bounds, bounds-recorded, bounds-corrected, bounds-cleared, bounds-restarted, bounds-merged, bounds-merged_corrected}
use Rattle.hdr_model.proofs.PlainKept.{resolution-recorded}
use Rattle.hdr_model.proofs.RecordingStands.{StandsFor-recorded}
use Rattle.hdr_model.proofs.MergingStands.{Fits-front, StandsFor-merged, merged-high, resolution-merged, recorded-high_with}
use Rattle.hdr_model.proofs.CorrectionByClass.{high-corrected, resolution-corrected}
use Rattle.hdr_model.proofs.RecordingClears.{IsPlain-cleared, clamped-is, clamped-small, high-clamped, resolution-cleared, resolution-restarted, high-cleared, high-restarted, stands-cleared, stands-restarted}
use Rattle.hdr_model.proofs.MergingCorrects.{StandsFor-one-corrected, StandsFor-merged_corrected, merged_corrected-high, resolution-merged_corrected}
use Rattle.hdr_model.proofs.MergingOrder.{max-small, highest-small}
use Rattle.hdr_model.proofs.PlainAfter.{IsPlain-recorded, IsPlain-corrected, IsPlain-restarted, IsPlain-merged, IsPlain-merged_corrected}

-- what follows from either result of a call
pub either : {X E A B G : Type 0} (Q : E → Type 0) (r : Result X E) → OnOk r A → IfErr r (λ e. Q e × B) → (A → G) → (B → G) → G
either Q (Ok x) ok err done failed = done ok
either Q (Err e) ok err done failed = failed err.1

-- ---- what is true of every histogram

pub call-plain : {T : Type 0} (greatest most : ℕ) (number : T → ℕ) (h : Plain) (call : Call T) → 1 ≤ greatest → IsCallOf most call → IsPlain greatest h → IsPlain greatest (after_call greatest number call h)
call-plain greatest most number h (Record v n) one small p = IsPlain-recorded greatest h v (number n) one small p
call-plain greatest most number h (Clamp v n) one small p = IsPlain-recorded greatest h (clamp_to_bins h v) (number n) one (clamped-small greatest h v small p) p
call-plain greatest most number h (Correct v n i) one small p = IsPlain-corrected greatest h v (number n) i one small p
call-plain greatest most number h Clear one small p = IsPlain-cleared greatest h p
call-plain greatest most number h Reset one small p = IsPlain-restarted greatest h p
call-plain greatest most number h (Add source) one q p = IsPlain-merged greatest most h source.now one p q
call-plain greatest most number h (AddCorrect source i) one q p = IsPlain-merged_corrected greatest most h source.now i one p q

-- ---- the classes

pub call-classes : {T : Type 0} (greatest most : ℕ) (number : T → ℕ) (h : Plain) (call : Call T) → IsCallOf most call → resolution (after_call greatest number call h) ≡ resolution h
call-classes greatest most number h (Record v n) fine = resolution-recorded greatest h v (number n)
call-classes greatest most number h (Clamp v n) fine = resolution-recorded greatest h (clamp_to_bins h v) (number n)
call-classes greatest most number h (Correct v n i) fine = resolution-corrected greatest h v (number n) i
call-classes greatest most number h Clear fine = resolution-cleared h
call-classes greatest most number h Reset fine = resolution-restarted h
call-classes greatest most number h (Add source) fine = resolution-merged greatest most h source.now fine
call-classes greatest most number h (AddCorrect source i) fine = resolution-merged_corrected greatest h source.now i

-- ---- the bounds

pub call-bounds : {T : Type 0} (greatest : ℕ) (number : T → ℕ) (h : Plain) (call : Call T) → bounds (after_call greatest number call h) ≡ bounds h
call-bounds greatest number h (Record v n) = bounds-recorded greatest h v (number n)
call-bounds greatest number h (Clamp v n) = bounds-recorded greatest h (clamp_to_bins h v) (number n)
call-bounds greatest number h (Correct v n i) = bounds-corrected greatest h v (number n) i
call-bounds greatest number h Clear = bounds-cleared h
call-bounds greatest number h Reset = bounds-restarted h
call-bounds greatest number h (Add source) = bounds-merged greatest h source.now
call-bounds greatest number h (AddCorrect source i) = bounds-merged_corrected greatest h source.now i

-- ---- the samples

-- what stands for other samples, which are the same
same-samples : (k : Plain) (S R : List ℕ) → S ≡ R → StandsFor k R → StandsFor k S
same-samples k S R e s = subst (λ l. StandsFor k l) (sym e) s

-- a call's samples if its classes are those of before
fits-before : (greatest : ℕ) (g k : Resolution) (S R : List ℕ) → k ≡ g → S ≡ R → Fits greatest k S → Fits greatest g R
fits-before greatest g k S R same e fits = subst (λ l. Fits greatest g l) e (subst (λ x. Fits greatest x S) same fits)

pub call-wherever : {T : Type 0} (greatest most : ℕ) (number : T → ℕ) (h : Plain) (call : Call T) (s t : State) → 1 ≤ greatest → IsCallOf most call → IsPlain greatest h
    → StandsWhereFits greatest h s → CallTo number (resolution h) call s t → StandsWhereFits greatest (after_call greatest number call h) t
call-wherever greatest most number h (Record v n) s t one small p stands to = (
  (λ fits.
      let f = fits-before greatest (resolution h) _ t.samples _ (resolution-recorded greatest h v (number n)) to.0 fits in
      same-samples _ t.samples _ to.0 (StandsFor-recorded greatest h v (number n) s.samples small p (stands.0 (Fits-front greatest (resolution h) s.samples _ f)) f)),
  recorded-high_with greatest h v (number n) ∙ ap (λ x. high_with (resolution h) x v (reach_of (resolution h) v)) stands.1 ∙ sym to.1,
)
call-wherever greatest most number h (Clamp v n) s t one small p stands to =
    let list = to.0 ∙ ap (λ k. s.samples ++ replicate (number n) (clamp (resolution h) k v)) (sym stands.1) ∙ ap (λ x. s.samples ++ replicate (number n) x) (sym (clamped-is h v)) in (
      (λ fits.
          let f = fits-before greatest (resolution h) _ t.samples _ (resolution-recorded greatest h (clamp_to_bins h v) (number n)) list fits in
          same-samples _ t.samples _ list (StandsFor-recorded greatest h (clamp_to_bins h v) (number n) s.samples (clamped-small greatest h v small p) p (stands.0 (Fits-front greatest (resolution h) s.samples _ f)) f)),
      high-clamped greatest h v (number n) ∙ stands.1 ∙ sym to.1,
    )
call-wherever greatest most number h (Correct v n i) s t one small p stands to = (
  (λ fits.
      let f = fits-before greatest (resolution h) _ t.samples _ (resolution-corrected greatest h v (number n) i) to.0 fits in
      same-samples _ t.samples _ to.0 (StandsFor-one-corrected greatest h v (number n) i s.samples small one p (stands.0 (Fits-front greatest (resolution h) s.samples _ f)) f)),
  high-corrected greatest h v (number n) i ∙ ap (λ x. high_with (resolution h) x v (reach_of (resolution h) v)) stands.1 ∙ sym to.1,
)
call-wherever greatest most number h Clear s t one small p stands to =
    ((λ fits. same-samples _ t.samples _ to.0 (stands-cleared h)), high-cleared h ∙ stands.1 ∙ sym to.1)
call-wherever greatest most number h Reset s t one small p stands to =
    ((λ fits. same-samples _ t.samples _ to.0 (stands-restarted h)), high-restarted h ∙ stands.1 ∙ sym to.1)
call-wherever greatest most number h (Add source) s t one q p stands to =
    let m = max_of source.now in (
      (λ fits.
          let f = fits-before greatest (resolution h) _ t.samples _ (resolution-merged greatest most h source.now q) to.3 fits in
          same-samples _ t.samples _ to.3 (StandsFor-merged greatest most h source.now s.samples to.0 one p q (max-small most source.now q) (stands.0 (Fits-front greatest (resolution h) s.samples to.0 f)) to.1 to.2 f)),
      merged-high greatest most h source.now q ∙ ap (λ n. cond (eqb n 0) h.high (high_with (resolution h) h.high m m)) to.1.total ∙ ap (λ x. cond (eqb (length to.0) 0) x (high_with (resolution h) x m m)) stands.1 ∙ sym to.4,
    )
call-wherever greatest most number h (AddCorrect source i) s t one q p stands to =
    let m = highest_top source.now in (
      (λ fits.
          let f = fits-before greatest (resolution h) _ t.samples _ (resolution-merged_corrected greatest h source.now i) to.2 fits in
          same-samples _ t.samples _ to.2 (StandsFor-merged_corrected greatest most h source.now i s.samples to.0 one p q (highest-small most source.now q) (stands.0 (Fits-front greatest (resolution h) s.samples _ f)) to.1 f)),
      merged_corrected-high greatest h source.now i ∙ ap (λ x. high_with (resolution h) x m (reach_of (resolution h) m)) stands.1 ∙ sym to.3,
    )

pub call-stands : {T : Type 0} (greatest most : ℕ) (number : T → ℕ) (h : Plain) (call : Call T) (s t : State) → 1 ≤ greatest → IsCallOf most call → IsPlain greatest h
    → StandsAt h s → CallTo number (resolution h) call s t → Fits greatest (resolution h) t.samples → StandsAt (after_call greatest number call h) t
call-stands greatest most number h call s t one small p stands to fits =
    let after = call-wherever greatest most number h call s t one small p ((λ before. stands.0), stands.1) to in
    (after.0 (subst (λ g. Fits greatest g t.samples) (sym (call-classes greatest most number h call small)) fits), after.1)
