-- The nonempty classes of a payload, number by number.
use lib.Signed.{lt_z}
use Rattle.std.specs.Result.{IfErr, OnOk}
use Rattle.std.proofs.Common.{◌≡◌, ℕ, zero, suc, ◌+◌, ◌-◌, ◌^◌, ◌<◌, ◌≤◌, Bool, true, false, List, [], ◌∷◌, ◌++◌, length, take, drop, map, slice_index, replicate, refl, sym, ap, subst, ◌∙◌, arith, append_assoc, append-nil, ℤ, pos, negsuc, Option, Some, None, Result, Ok, Err}
use Rattle.hdr_base.specs.Classes.{Resolution, bin_of, reach_of, value_of, bins_to, resolution_of, HasScale}
use Rattle.hdr_base.proofs.ClassesLaws.{bin-mono}
use Rattle.hdr_base.proofs.ClassesReach.{reach-fits, bins_by}
use Rattle.hdr_base.proofs.ClassesDigits.{digits-pos-of}
use Rattle.hdr_model.specs.Plain.{resolution}
use Rattle.hdr_model.specs.Recording.{Times}
use Rattle.hdr_model.specs.Merging.{classes_from}
use Rattle.hdrhistogram.specs.Varint.{Spells}
use Rattle.hdrhistogram.specs.ZigZag.{from_zig_zag}
use Rattle.hdrhistogram.specs.Defects.{Defect, cut, bad_bounds, defect_of_error, unless, FailsBy}
use Rattle.hdrhistogram.specs.declared.serialization.errors.DeserializeError.{DeserializeError}
use Rattle.hdrhistogram.specs.PayloadRead.{bins_of_number, move, defect_at, fit_bins, with_count, counts_in, IsCut}
use Rattle.hdrhistogram.specs.V2Read.{Header, Contents, header_at, are_bounds, bounds_defect, bytes_at, bins_for, contents_of, v2_at}
use Rattle.hdrhistogram.specs.ClassesRead.{AppendsHistogram, times_of}
use Rattle.hdrhistogram.specs.declared.serialization.class_decoder.RecordedClass.{RecordedClass}
use Rattle.hdrhistogram.specs.declared.serialization.class_decoder.RecordedBounds.{RecordedBounds}
use Rattle.hdrhistogram.proofs.PayloadReadFilling.{IsFilledTo, fill_start, fill_bins, fill_next, fill_defective, fill_end, fill_cut, fitted_none, fitted_run, with_fitted, below_bins}
use Rattle.hdrhistogram.proofs.V2ReadHeader.{fails_bind, unless_fails}
use Rattle.hdrhistogram.proofs.V2ReadHistogram.{defect-some, from_bounds, from_payload, from_counts}
use Rattle.hdrhistogram.proofs.V2ReadPlain.{contents_held}

-- ---- classes of lists of counts

pub no-classes : (g : Resolution) (k n : ℕ) → classes_from g k (replicate n 0) ≡ []
no-classes g k zero = refl
no-classes g k (suc n) = no-classes g (suc k) n

-- the classes of counts and of one more bin
fitted-classes : (g : Resolution) (k bins n : ℕ) (front : List ℕ) → length front < bins → classes_from g k (fit_bins bins (front ++ suc n ∷ [])) ≡ classes_from g k (fit_bins bins front) ++ classes_from g (k + length front) (suc n ∷ [])
unfolding fit_bins
fitted-classes g k zero n front inside = absurd (omega arith)
fitted-classes g k (suc bins) n [] inside =
    let none : (i : ℕ) → classes_from g i (fit_bins bins []) ≡ [] = λ i. ap (classes_from g i) (fitted_none bins) ∙ no-classes g i bins in
    let one : Times = record { value = value_of g k; times = suc n } in
    ap (λ l. one ∷ l) (none (suc k)) ∙ ap (λ i. classes_from g i (suc n ∷ [])) (let e : k ≡ k + 0 = omega arith in e) ∙ ap (λ l. l ++ classes_from g (k + 0) (suc n ∷ [])) (sym (none (suc k)))
fitted-classes g k (suc bins) n (zero ∷ front) inside =
    fitted-classes g (suc k) bins n front (omega arith) ∙ ap (λ i. classes_from g (suc k) (fit_bins bins front) ++ classes_from g i (suc n ∷ [])) (let e : suc k + length front ≡ k + suc (length front) = omega arith in e)
fitted-classes g k (suc bins) n (suc m ∷ front) inside =
    let one : Times = record { value = value_of g k; times = suc m } in
    ap (λ l. one ∷ l) (fitted-classes g (suc k) bins n front (omega arith) ∙ ap (λ i. classes_from g (suc k) (fit_bins bins front) ++ classes_from g i (suc n ∷ [])) (let e : suc k + length front ≡ k + suc (length front) = omega arith in e))

-- the classes of counts and of a number without a defect
pub number-classes : (g : Resolution) (bins place : ℕ) (front : List ℕ) (n : ℤ) → length front ≡ place → ((m : ℕ) → n ≡ pos (suc m) → place < bins)
    → classes_from g 0 (fit_bins bins (front ++ bins_of_number n)) ≡ classes_from g 0 (fit_bins bins front) ++ classes_from g place (bins_of_number n)
number-classes g bins place front (pos zero) long inside = ap (classes_from g 0) (fitted_run bins front 1) ∙ sym (append-nil (classes_from g 0 (fit_bins bins front)))
number-classes g bins place front (pos (suc n)) long inside =
    fitted-classes g 0 bins n front (omega (arith, long, inside n refl)) ∙ ap (λ i. classes_from g 0 (fit_bins bins front) ++ classes_from g i (suc n ∷ [])) (let e : 0 + length front ≡ place = omega (arith, long) in e)
number-classes g bins place front (negsuc n) long inside =
    ap (classes_from g 0) (fitted_run bins front (suc n)) ∙ sym (ap (λ l. classes_from g 0 (fit_bins bins front) ++ l) (no-classes g place (suc n)) ∙ append-nil (classes_from g 0 (fit_bins bins front)))

not-below : (m : ℕ) → lt_z (pos m) (pos 0) ≡ true → ⊥
not-below m below = grind arith

-- a run of empty bins has no classes
pub run-classes : (g : Resolution) (place : ℕ) (n : ℤ) (old : List Times) → lt_z n (pos 0) ≡ true → old ≡ old ++ classes_from g place (bins_of_number n)
run-classes g place (pos m) old below = absurd (not-below m below)
run-classes g place (negsuc m) old below = sym (ap (λ l. old ++ l) (no-classes g place (suc m)) ∙ append-nil old)

pub on_any : {T E P : Type 0} (r : Result T E) → P → OnOk r P
on_any (Ok x) p = p
on_any (Err e) p = tt

-- ---- the loop

-- the numbers before `at` are read, and the classes of their counts are appended
pub record IsListedTo (g : Resolution) (bins greatest : ℕ) (payload : List ℕ) (old new : List Times) (at place : ℕ) : Type 0 where
  pub counts : List ℕ
  pub filled : IsFilledTo bins greatest payload counts at place
  pub listed : new ≡ old ++ classes_from g 0 counts

pub list_start : (g : Resolution) (bins greatest : ℕ) (payload : List ℕ) (old : List Times) → IsListedTo g bins greatest payload old old 0 0
list_start g bins greatest payload old = record {
  counts = replicate bins 0;
  filled = fill_start bins greatest payload (replicate bins 0) refl;
  listed = sym (ap (λ l. old ++ l) (no-classes g 0 bins) ∙ append-nil old);
}

pub list_next : (g : Resolution) (bins greatest : ℕ) (payload text : List ℕ) (old mid new : List Times) (at next place further len encoded : ℕ) (n : ℤ) → IsListedTo g bins greatest payload old mid at place
    → len ≤ length (drop at payload) → text ≡ take len (drop at payload) → Spells text encoded → n ≡ from_zig_zag encoded
    → defect_at bins greatest place n ≡ None → new ≡ mid ++ classes_from g place (bins_of_number n) → next ≡ at + len → further ≡ place + move n
    → IsListedTo g bins greatest payload old new next further
list_next g bins greatest payload text old mid new at next place further len encoded n d h t s value fine e next_is further_is =
    let f = d.filled in
    let here : defect_at (length d.counts) greatest place n ≡ None = ap (λ k. defect_at k greatest place n) (fill_bins bins greatest payload d.counts at place f) ∙ fine in
    let after : with_count d.counts place n ≡ fit_bins bins (f.front ++ bins_of_number n) = ap (λ l. with_count l place n) f.now ∙ with_fitted bins greatest place f.front n f.long fine in
    let more : classes_from g 0 (with_count d.counts place n) ≡ classes_from g 0 d.counts ++ classes_from g place (bins_of_number n) =
    ap (classes_from g 0) after ∙ number-classes g bins place f.front n f.long (λ m is. below_bins bins greatest place m (subst (λ z. defect_at bins greatest place z ≡ None) is fine))
    ∙ ap (λ l. classes_from g 0 l ++ classes_from g place (bins_of_number n)) (sym f.now) in
    record {
      counts = with_count d.counts place n;
      filled = fill_next bins greatest payload d.counts (with_count d.counts place n) text at next place further len encoded n f h t s value here refl next_is further_is;
      listed = e ∙ ap (λ l. l ++ classes_from g place (bins_of_number n)) d.listed ∙ append_assoc old (classes_from g 0 d.counts) (classes_from g place (bins_of_number n)) ∙ ap (λ l. old ++ l) (sym more);
    }

pub list_defective : (g : Resolution) (bins greatest : ℕ) (payload text : List ℕ) (old mid : List Times) (at place len encoded : ℕ) (n : ℤ) (f : Defect) → IsListedTo g bins greatest payload old mid at place
    → len ≤ length (drop at payload) → text ≡ take len (drop at payload) → Spells text encoded → n ≡ from_zig_zag encoded
    → defect_at bins greatest place n ≡ Some f → counts_in bins greatest payload ≡ Err f
list_defective g bins greatest payload text old mid at place len encoded n f d h t s value e =
    fill_defective bins greatest payload d.counts text at place len encoded n f d.filled h t s value (ap (λ k. defect_at k greatest place n) (fill_bins bins greatest payload d.counts at place d.filled) ∙ e)

pub list_end : (g : Resolution) (bins greatest : ℕ) (payload : List ℕ) (old new : List Times) (at place : ℕ) → IsListedTo g bins greatest payload old new at place → length payload ≤ at
    → (counts : List ℕ) × (counts_in bins greatest payload ≡ Ok counts) × (new ≡ old ++ classes_from g 0 counts)
list_end g bins greatest payload old new at place d past = (d.counts, fill_end bins greatest payload d.counts at place d.filled past, d.listed)

pub list_cut : (g : Resolution) (bins greatest : ℕ) (payload : List ℕ) (old new : List Times) (at place : ℕ) → IsListedTo g bins greatest payload old new at place → at < length payload → IsCut (drop at payload)
    → counts_in bins greatest payload ≡ Err cut
list_cut g bins greatest payload old new at place d inside rest = fill_cut bins greatest payload d.counts at place d.filled inside rest

-- ---- the bounds

-- the last class of a histogram is at most that of the greatest value
pub few-bins : (low high sigfig : ℕ) → HasScale low sigfig → high < 2 ^ 64 → bin_of (resolution_of low sigfig) (reach_of (resolution_of low sigfig) high) ≤ bin_of (resolution_of low sigfig) (2 ^ 64 - 1)
unfolding resolution_of
few-bins low high sigfig scale small =
    let g = resolution_of low sigfig in
    let fits : reach_of g high < 2 ^ 64 = reach-fits g high small scale.fits in
    bin-mono g (reach_of g high) (2 ^ 64 - 1) (digits-pos-of low sigfig) (omega (arith, fits))

pub bins-are : (g : Resolution) (low high sigfig bin reach : ℕ) → g ≡ resolution_of low sigfig → bin ≡ bin_of g reach → reach ≡ reach_of g high → bin + 1 ≡ bins_to (resolution_of low sigfig) high
bins-are g low high sigfig bin reach same is at =
    ap (λ n. n + 1) (is ∙ ap (bin_of g) at ∙ ap (λ r. bin_of r (reach_of r high)) same) ∙ bins_by (resolution_of low sigfig) high

pub bins-few : (g : Resolution) (low high sigfig bin reach : ℕ) → HasScale low sigfig → high < 2 ^ 64 → g ≡ resolution_of low sigfig → bin ≡ bin_of g reach → reach ≡ reach_of g high → bin + 1 ≤ bin_of g (2 ^ 64 - 1) + 1
bins-few g low high sigfig bin reach scale small same is at =
    let few = few-bins low high sigfig scale small in
    omega (arith, few, is ∙ ap (bin_of g) at ∙ ap (λ r. bin_of r (reach_of r high)) same, ap (λ r. bin_of r (2 ^ 64 - 1)) same)

pub no-bounds : (h : Header) → (are_bounds h.low h.high h.sigfig ≡ true → ⊥) → bounds_defect h ≡ Some bad_bounds
no-bounds h never = go (are_bounds h.low h.high h.sigfig) refl
  where
    go : (b : Bool) → are_bounds h.low h.high h.sigfig ≡ b → bounds_defect h ≡ Some bad_bounds
    go true e = absurd (never e)
    go false e = defect-some h e

-- ---- the histogram

pub v2-steps : (most : ℕ) (text rest last payload counts : List ℕ) (header : Header) → header_at text ≡ Ok (header, rest) → bounds_defect header ≡ None → bytes_at header.payload_len rest ≡ Ok (payload, last)
    → counts_in (bins_for header) most payload ≡ Ok counts → v2_at most text ≡ Ok (contents_of header counts, last)
unfolding v2_at
v2-steps most text rest last payload counts header e1 e2 e3 e4 = rw (e1, e2, e3, e4) refl

-- an error of a step is that of all of it
pub fails-header : (most : ℕ) (text : List ℕ) (o : Option Defect) → FailsBy o (header_at text) → FailsBy o (v2_at most text)
unfolding v2_at
fails-header most text o h = fails_bind o (header_at text) (λ f. from_bounds most f.0 f.1) h

pub fails-bounds : (most : ℕ) (text rest : List ℕ) (header : Header) (o : Option Defect) → header_at text ≡ Ok (header, rest) → FailsBy {A = ℕ} o (unless (bounds_defect header) 0) → FailsBy o (v2_at most text)
unfolding v2_at
fails-bounds most text rest header o e h =
    rw e (fails_bind o (unless (bounds_defect header) header) (λ header. from_payload most header rest) (unless_fails o (bounds_defect header) header h))

pub fails-payload : (most : ℕ) (text rest : List ℕ) (header : Header) (o : Option Defect) → header_at text ≡ Ok (header, rest) → bounds_defect header ≡ None → FailsBy o (bytes_at header.payload_len rest) → FailsBy o (v2_at most text)
unfolding v2_at
fails-payload most text rest header o e fine h = rw (e, fine) (fails_bind o (bytes_at header.payload_len rest) (λ p. from_counts most header p.0 p.1) h)

pub fails-counts : (most : ℕ) (text rest last payload : List ℕ) (header : Header) (o : Option Defect) → header_at text ≡ Ok (header, rest) → bounds_defect header ≡ None → bytes_at header.payload_len rest ≡ Ok (payload, last)
    → FailsBy o (counts_in (bins_for header) most payload) → FailsBy o (v2_at most text)
unfolding v2_at
fails-counts most text rest last payload header o e1 e2 e3 h = rw (e1, e2, e3) (fails_bind o (counts_in (bins_for header) most payload) (λ counts. Ok (contents_of header counts, last)) h)

pub appends : (most : ℕ) (text last counts : List ℕ) (header : Header) (bounds : RecordedBounds) (old new : List RecordedClass) → ((i : ℕ) → slice_index text i < 256) → v2_at most text ≡ Ok (contents_of header counts, last)
    → header.low ≡ bounds.low → header.sigfig ≡ bounds.sigfig → map times_of new ≡ map times_of old ++ classes_from (resolution_of header.low header.sigfig) 0 counts → AppendsHistogram most text bounds old new
appends most text last counts header bounds old new are e low sigfig listed =
    let (h, taken, read, plain, same) = contents_held most text last (contents_of header counts) are e in
    let h-low : h.low ≡ header.low = ap (λ (c : Contents). c.low) same in
    let h-sigfig : h.sigfig ≡ header.sigfig = ap (λ (c : Contents). c.sigfig) same in
    let h-counts : h.counts ≡ counts = ap (λ (c : Contents). c.counts) same in
    record {
      histogram = h;
      taken = taken;
      read = read;
      plain = plain;
      low = h-low ∙ low;
      sigfig = h-sigfig ∙ sigfig;
      appended = listed ∙ ap (λ l. map times_of old ++ classes_from (resolution_of l header.sigfig) 0 counts) (sym h-low) ∙ ap (λ s. map times_of old ++ classes_from (resolution_of h.low s) 0 counts) (sym h-sigfig)
          ∙ ap (λ c. map times_of old ++ classes_from (resolution h) 0 c) (sym h-counts);
    }

-- a result that is this error
pub err-fails : {X Y : Type 0} (r : Result X DeserializeError) (e d : DeserializeError) (whole : Result Y Defect) → r ≡ Err e → e ≡ d → FailsBy (defect_of_error d) whole → IfErr r (λ e. FailsBy (defect_of_error e) whole)
err-fails r e d whole p q h = rw (p, q) h
