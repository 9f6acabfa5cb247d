-- The errors of the headline. Times are in nanoseconds.
use Rattle.std.specs.Prelude.{◌≡◌, ◌<◌, ℕ, List, length, take, slice_get, IfSome}
use Rattle.hdr_core.specs.Calls.{after_calls, AreAccepted, IsCallError}
use Rattle.hdr_core.specs.declared.call.Call as core
use Rattle.hdr_core.specs.declared.call.RunError.{RunError}
use Rattle.hdr_log.specs.Texts.{IsTimeInRange}
use Rattle.hdr_model.specs.Plain.{Plain}
use Rattle.hdrhistogram.specs.V2.{HasTooGreatCount}
use Rattle.hdr_headline.specs.declared.errors.HeadlineError.{HeadlineError}
use Rattle.hdr_headline.specs.declared.errors.HeadlineError.TheVariants.{Call, CountNotSerializable, TimeOutOfRange, OutOfMemory}

-- a call failed: those before it were accepted and applied, and this is its error
pub record IsFailedCall {T : Type 0} (greatest : ℕ) (number : T → ℕ) (calls : List (core.Call T)) (old new : Plain) (e : RunError) : Type 0 where
  pub at : e.at < length calls
  pub before : new ≡ after_calls greatest number (take e.at calls) old
  pub accepted : AreAccepted greatest number (take e.at calls) old
  pub cause : IfSome (slice_get calls e.at) (λ call. IsCallError new call e.cause)

-- encoding or decoding a histogram fails only if a count is too great or memory runs out
abbrev pub IsBytesError : Plain → HeadlineError → Type 0
IsBytesError h CountNotSerializable = HasTooGreatCount h
IsBytesError h OutOfMemory = Unit {0}
IsBytesError h e = ⊥

-- writing and reading a line: the same, or a time is out of range
abbrev pub IsLineError : Plain → ℕ → ℕ → HeadlineError → Type 0
IsLineError h start duration TimeOutOfRange = IsTimeInRange start × IsTimeInRange duration → ⊥
IsLineError h start duration e = IsBytesError h e

-- a call failed, or all of them were accepted and applied, and the histogram after them has no bytes or no line
abbrev pub IsHeadlineError : {T : Type 0} → ℕ → (T → ℕ) → List (core.Call T) → ℕ → ℕ → Plain → Plain → HeadlineError → Type 0
IsHeadlineError greatest number calls start duration old new (Call e) = IsFailedCall greatest number calls old new e
IsHeadlineError greatest number calls start duration old new e =
    (new ≡ after_calls greatest number calls old) × AreAccepted greatest number calls old × IsLineError new start duration e
