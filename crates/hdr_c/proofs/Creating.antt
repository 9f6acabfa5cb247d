-- A histogram that was created, and then stored in a handle.
use Rattle.std.proofs.Common.{◌≡◌, ◌∙◌, ℕ, Bool, Option, Some, Result, Ok, Err, inl, inr, ap}
use Rattle.std.specs.Result.{MatchResult}
use Rattle.hdr_model.specs.Plain.{Plain, empty_plain}
use Rattle.hdr_model.specs.CallErrors.{IsBounds, IsCreationError}
use Rattle.hdr_model.specs.declared.errors.CreationError.{CreationError}
use Rattle.hdr_model.specs.declared.errors.CreationError.TheVariants.{OutOfMemory}
use Rattle.hdr_c.specs.Calls.{Creates, Stores}

pub creates : (status low high sigfig : ℕ) (auto_resize : Bool) (old new : Option Plain) (r : Result Plain CreationError) → MatchResult r (λ h. (h ≡ empty_plain low high sigfig auto_resize) × IsBounds low high sigfig) (IsCreationError low high sigfig) → Stores status r old new → Creates status low high sigfig auto_resize old new
creates status low high sigfig auto_resize old new (Ok h) made (inl stored) = inl (stored.0, stored.1 ∙ ap Some made.0)
creates status low high sigfig auto_resize old new (Ok h) made (inr failed) = inr (OutOfMemory, failed.0, made.1, failed.1)
creates status low high sigfig auto_resize old new (Err e) made failed = inr (e, failed.0, made, failed.1)
