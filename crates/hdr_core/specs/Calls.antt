-- What calls do, by numbers and by samples. (Each case is the documentation of that call of the Rust crate; calls as values
-- are our own.)
use Rattle.std.specs.Prelude.{◌≡◌, ◌⊎◌, ℕ, ◌^◌, ◌<◌, List, [], ◌∷◌, ◌++◌, replicate, length, take, Result, Ok, Err}
use Rattle.hdr_base.specs.Classes.{Resolution, reach_of}
use Rattle.hdr_model.specs.Plain.{Plain, IsPlain, max_of}
use Rattle.hdr_model.specs.Recording.{after_record, clamp_to_bins, after_clear, after_reset, samples_of, clamp, high_with}
use Rattle.hdr_model.specs.Correction.{missing, each_times, after_correct}
use Rattle.hdr_model.specs.Merging.{highest_top, after_add_correct, after_add}
use Rattle.hdr_model.specs.CallErrors.{IsRecordable, IsRecordError, IsAdditionError, IsCorrectionError}
use Rattle.hdr_model.specs.Runs.{State, after_each, EachIsAccepted, EachTo, AddCorrectedTo, AddTo}
use Rattle.hdr_core.specs.declared.call.Call.{Call}
use Rattle.hdr_core.specs.declared.call.Call.TheVariants.{Record, Clamp, Correct, Clear, Reset, Add, AddCorrect}
use Rattle.hdr_core.specs.declared.call.CallError.{CallError}
use Rattle.hdr_core.specs.declared.call.CallError.TheVariants as err
use Rattle.hdr_core.specs.declared.call.RunError.{RunError}

-- what a call makes of a histogram
abbrev pub after_call : {T : Type 0} → ℕ → (T → ℕ) → Call T → Plain → Plain
after_call greatest number (Record v n) h = after_record greatest h v (number n)
after_call greatest number (Clamp v n) h = after_record greatest h (clamp_to_bins h v) (number n)
after_call greatest number (Correct v n i) h = after_correct greatest h v (number n) i
after_call greatest number Clear h = after_clear h
after_call greatest number Reset h = after_reset h
after_call greatest number (Add source) h = after_add greatest h source.now
after_call greatest number (AddCorrect source i) h = after_add_correct greatest h source.now i

-- what calls make of it, one after another
abbrev pub after_calls : {T : Type 0} → ℕ → (T → ℕ) → List (Call T) → Plain → Plain
after_calls greatest number = after_each (after_call greatest number)

-- a call's value is a u64, and its source is a histogram for counters up to `most`
abbrev pub IsCallOf : {T : Type 0} → ℕ → Call T → Type 0
IsCallOf most (Record v n) = v < 2 ^ 64
IsCallOf most (Clamp v n) = v < 2 ^ 64
IsCallOf most (Correct v n i) = v < 2 ^ 64
IsCallOf most Clear = Unit {0}
IsCallOf most Reset = Unit {0}
IsCallOf most (Add source) = IsPlain most source.now
IsCallOf most (AddCorrect source i) = IsPlain most source.now

-- when a call returns an error, and which
abbrev pub IsCallError : {T : Type 0} → Plain → Call T → CallError → Type 0
IsCallError h (Record v n) (err.Record e) = IsRecordError h v e
IsCallError h (Correct v n i) (err.Record e) = IsRecordError h v e
IsCallError h (Add source) (err.Addition e) = IsAdditionError h source.now e
IsCallError h (AddCorrect source i) (err.Record e) = IsCorrectionError h source.now e
IsCallError h _ _ = ⊥

-- the call fails only if an allocation does
abbrev pub IsAccepted : {T : Type 0} → Plain → Call T → Type 0
IsAccepted h (Record v n) = IsRecordable h v
IsAccepted h (Clamp v n) = Unit {0}
IsAccepted h (Correct v n i) = IsRecordable h v
IsAccepted h Clear = Unit {0}
IsAccepted h Reset = Unit {0}
IsAccepted h (Add source) = (source.now.total ≡ 0) ⊎ IsRecordable h (max_of source.now)
IsAccepted h (AddCorrect source i) = IsRecordable h (highest_top source.now)

-- each of the calls, in order, fails only if an allocation does
abbrev pub AreAccepted : {T : Type 0} → ℕ → (T → ℕ) → List (Call T) → Plain → Type 0
AreAccepted greatest number = EachIsAccepted (after_call greatest number) IsAccepted

-- a call takes one state to another
abbrev pub CallTo : {T : Type 0} → (T → ℕ) → Resolution → Call T → State → State → Type 0
CallTo number g (Record v n) s t =
    (t.samples ≡ s.samples ++ replicate (number n) v) × (t.high ≡ high_with g s.high v (reach_of g v))
CallTo number g (Clamp v n) s t =
    (t.samples ≡ s.samples ++ replicate (number n) (clamp g s.high v)) × (t.high ≡ s.high)
CallTo number g (Correct v n i) s t =
    (t.samples ≡ s.samples ++ samples_of (each_times (number n) (v ∷ missing v i))) × (t.high ≡ high_with g s.high v (reach_of g v))
CallTo number g Clear s t = (t.samples ≡ []) × (t.high ≡ s.high)
CallTo number g Reset s t = (t.samples ≡ []) × (t.high ≡ s.high)
CallTo number g (Add source) s t = AddTo g source.now s t
CallTo number g (AddCorrect source i) s t = AddCorrectedTo g source.now i s t

-- a run of calls takes one state to another, and after each call the samples fit
abbrev pub CallsTo : {T : Type 0} → (T → ℕ) → Resolution → (List ℕ → Type 0) → List (Call T) → State → State → Type 0
CallsTo number g fits = EachTo (CallTo number g) fits

-- the number of n calls that were done
abbrev pub calls_done : Result (Unit {0}) RunError → ℕ → ℕ
calls_done (Ok u) n = n
calls_done (Err e) n = e.at

-- the calls that were applied: all, or those before the first that failed
abbrev pub calls_applied : {C : Type 0} → Result (Unit {0}) RunError → List C → List C
calls_applied result calls = take (calls_done result (length calls)) calls

-- what is true of every call of a histogram, and of every two states
abbrev pub OfEachCall : {T : Type 0} → ℕ → (Plain → Call T → State → State → Type 0) → Type 0
OfEachCall greatest P = (most : ℕ) (h : Plain) (call : Call _) (s t : State) → IsCallOf most call → IsPlain greatest h → P h call s t
