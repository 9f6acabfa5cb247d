-- What a field adds to a merge: its histogram, or its error.
use Rattle.hdr_model.specs.CallErrors.{IsBounds}
use Rattle.hdr_log.specs.Timed.{TimedInterval}
use Rattle.hdrhistogram.specs.Chosen.{Filter}
use Rattle.std.proofs.Common.{ℕ, ◌+◌, List, ◌∷◌, Option, Result, Ok, Err, refl, sym, subst}
use Rattle.hdr_model.specs.Plain.{Plain}
use Rattle.hdr_log.specs.Texts.{base64_bytes}
use Rattle.hdrhistogram.specs.FieldRead.{IsHeldIn, IsFieldDecodeError}
use Rattle.hdrhistogram.specs.LogMerging.{Merging, with_interval, FieldMerges, ItemMerges, ItemsMerge, Merges, IsStepError, IsMergeError, field_error}
use Rattle.hdrhistogram.specs.declared.serialization.interval_log.merge.MergeError.{MergeError}
use Rattle.hdrhistogram.specs.declared.serialization.interval_log.merge.MergeError.TheVariants as merging
use Rattle.hdrhistogram.specs.declared.serialization.errors.FieldDecodeError.{FieldDecodeError}
use Rattle.hdrhistogram.specs.declared.serialization.errors.FieldDecodeError.TheVariants.{NotBase64, Decode, OutOfMemory}

pub held_merges : (greatest : ℕ) (m : Merging) (field : List ℕ) (h : Plain) → IsHeldIn 18446744073709551615 field h
    → FieldMerges greatest m (base64_bytes field) (Ok (with_interval greatest m h))
held_merges greatest m field h held =
    subst (λ (o : Option (List ℕ)). FieldMerges greatest m o (Ok (with_interval greatest m h))) (sym held.1) (Ok (h, held.2), held.3, refl)

pub refused_merges : (greatest : ℕ) (m : Merging) (field : List ℕ) (e : FieldDecodeError) → IsFieldDecodeError 18446744073709551615 field e
    → IsStepError (λ r. FieldMerges greatest m (base64_bytes field) (Err r)) (field_error (m.intervals + 1) e)
refused_merges greatest m field NotBase64 none =
    subst (λ (o : Option (List ℕ)). FieldMerges greatest m o (Err (field_error (m.intervals + 1) NotBase64))) (sym none) refl
refused_merges greatest m field (Decode e) refused =
    subst (λ (o : Option (List ℕ)). FieldMerges greatest m o (Err (field_error (m.intervals + 1) (Decode e)))) (sym refused.1) (Err e, refused.2, refl)
refused_merges greatest m field OutOfMemory refused = tt

-- an item's error is the error of the merge
pub step_failed : (greatest : ℕ) (filter : Filter) (sigfig : ℕ) (log : List ℕ) (m : Merging) (item : Result TimedInterval ℕ) (rest : List (Result TimedInterval ℕ)) (e : MergeError) → IsBounds 1 2 sigfig
    → ((r : Result Merging MergeError) → ItemsMerge greatest filter (item ∷ rest) m r → Merges greatest filter sigfig log r) → IsStepError (λ f. ItemMerges greatest filter m item (Err f)) e → IsMergeError greatest filter sigfig log e
step_failed greatest filter sigfig log m item rest (merging.Creation cause) b ends h = absurd h
step_failed greatest filter sigfig log m item rest (merging.Parse at) b ends h = (b, ends (Err (merging.Parse at)) (Err (merging.Parse at), h, refl))
step_failed greatest filter sigfig log m item rest (merging.Base64 k) b ends h = (b, ends (Err (merging.Base64 k)) (Err (merging.Base64 k), h, refl))
step_failed greatest filter sigfig log m item rest (merging.Decode k cause) b ends h = (b, ends (Err (merging.Decode k cause)) (Err (merging.Decode k cause), h, refl))
step_failed greatest filter sigfig log m item rest merging.OutOfMemory b ends h = b
