-- What calls do whose sources may count in another type, by numbers and by samples. (Our own, as `add_from` is: in the Rust
-- crate a source counts in the same type.)
use Rattle.std.specs.Prelude.{◌≡◌, ◌⊎◌, ℕ, List}
use Rattle.hdr_base.specs.Classes.{Resolution}
use Rattle.hdr_model.specs.Plain.{Plain, max_of}
use Rattle.hdr_model.specs.Merging.{highest_top, after_add_correct, after_add}
use Rattle.hdr_model.specs.CallErrors.{IsRecordable, IsAdditionError, IsCorrectionError}
use Rattle.hdr_model.specs.Runs.{State, after_each, EachIsAccepted, EachTo, AddTo, AddCorrectedTo}
use Rattle.hdr_core.specs.Calls.{after_call, IsCallError, IsAccepted, CallTo}
use Rattle.hdr_core.specs.declared.call_from.CallFrom.{CallFrom}
use Rattle.hdr_core.specs.declared.call_from.CallFrom.TheVariants.{Own, AddFrom, AddCorrectFrom}
use Rattle.hdr_core.specs.declared.call.CallError.{CallError}
use Rattle.hdr_core.specs.declared.call.CallError.TheVariants as err

-- what a call makes of a histogram
abbrev pub after_call_from : {T F : Type 0} → ℕ → (T → ℕ) → CallFrom T F → Plain → Plain
after_call_from greatest number (Own call) h = after_call greatest number call h
after_call_from greatest number (AddFrom source) h = after_add greatest h source.now
after_call_from greatest number (AddCorrectFrom source i) h = after_add_correct greatest h source.now i

-- what calls make of it, one after another
abbrev pub after_calls_from : {T F : Type 0} → ℕ → (T → ℕ) → List (CallFrom T F) → Plain → Plain
after_calls_from greatest number = after_each (after_call_from greatest number)

-- when a call returns an error, and which
abbrev pub IsCallFromError : {T F : Type 0} → Plain → CallFrom T F → CallError → Type 0
IsCallFromError h (Own call) e = IsCallError h call e
IsCallFromError h (AddFrom source) (err.Addition e) = IsAdditionError h source.now e
IsCallFromError h (AddCorrectFrom source i) (err.Record e) = IsCorrectionError h source.now e
IsCallFromError h _ _ = ⊥

-- the call fails only if an allocation does
abbrev pub IsAcceptedFrom : {T F : Type 0} → Plain → CallFrom T F → Type 0
IsAcceptedFrom h (Own call) = IsAccepted h call
IsAcceptedFrom h (AddFrom source) = (source.now.total ≡ 0) ⊎ IsRecordable h (max_of source.now)
IsAcceptedFrom h (AddCorrectFrom source i) = IsRecordable h (highest_top source.now)

-- each of the calls, in order, fails only if an allocation does
abbrev pub AreAcceptedFrom : {T F : Type 0} → ℕ → (T → ℕ) → List (CallFrom T F) → Plain → Type 0
AreAcceptedFrom greatest number = EachIsAccepted (after_call_from greatest number) IsAcceptedFrom

-- a call takes one state to another
abbrev pub CallFromTo : {T F : Type 0} → (T → ℕ) → Resolution → CallFrom T F → State → State → Type 0
CallFromTo number g (Own call) s t = CallTo number g call s t
CallFromTo number g (AddFrom source) s t = AddTo g source.now s t
CallFromTo number g (AddCorrectFrom source i) s t = AddCorrectedTo g source.now i s t

-- a run of calls takes one state to another, and after each call the samples fit
abbrev pub CallsFromTo : {T F : Type 0} → (T → ℕ) → Resolution → (List ℕ → Type 0) → List (CallFrom T F) → State → State → Type 0
CallsFromTo number g fits = EachTo (CallFromTo number g) fits
