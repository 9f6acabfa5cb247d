-- When memory may run out.
use Rattle.std.proofs.Common.{◌≡◌, ◌++◌, List, ℕ, Option, Some, None, Result, Ok, Err, IfErr, refl, sym, ap, ◌∙◌}
use Rattle.std.specs.Io.KnownBytes.{Consumes}
use Rattle.std.proofs.KnownBytes.{Consumes-trans}
use Rattle.hdrhistogram.specs.declared.serialization.errors.DeserializeError.{DeserializeError}
use Rattle.hdrhistogram.specs.declared.serialization.errors.DeserializeError.TheVariants as errors
use Rattle.hdrhistogram.specs.Defects.{Defect, RunsOutOnly, defect_of_error}
use Rattle.hdrhistogram.specs.V2Read.{Header, HasBounds, header_at, bounds_defect}
use Rattle.hdrhistogram.proofs.V2ReadHeader.{TakenBy, header-steady, steady_whole}

-- the condition is required for one error only
runs_out_if : (Condition : Type 0) (e : DeserializeError) → (e ≡ errors.OutOfMemory → Condition) → RunsOutOnly Condition e
runs_out_if Condition (errors.IoError cause) h = tt
runs_out_if Condition errors.InvalidCookie h = tt
runs_out_if Condition errors.UnsupportedFeature h = tt
runs_out_if Condition errors.UnsuitableCounterType h = tt
runs_out_if Condition errors.InvalidParameters h = tt
runs_out_if Condition errors.UsizeTypeTooSmall h = tt
runs_out_if Condition errors.EncodedArrayTooLong h = tt
runs_out_if Condition errors.OutOfMemory h = h refl

-- if the condition holds, and if the error names a defect
pub runs_out : (Condition : Type 0) (e : DeserializeError) → Condition → RunsOutOnly Condition e
runs_out Condition e h = runs_out_if Condition e (λ _. h)

pub names_out : {f : Defect} (Condition : Type 0) (e : DeserializeError) → defect_of_error e ≡ Some f → RunsOutOnly Condition e
names_out {f} Condition e h = runs_out_if Condition e (λ is. let no : ◌≡◌ {A = Option Defect} None (Some f) = sym (ap defect_of_error is) ∙ h in absurd cc)

-- if a header was taken whose bounds are those of a histogram, memory may run out, whatever was
-- taken after it
pub after_bounds_out : {X : Type 0} (old mid new : Option (List ℕ)) (header : Header) (r : Result X DeserializeError) → TakenBy old mid header_at header → bounds_defect header ≡ None
    → (more : List ℕ) → Consumes mid new more → IfErr r (λ e. (taken : List ℕ) × Consumes old new taken × RunsOutOnly (HasBounds taken) e)
after_bounds_out old mid new header (Ok x) by fine more d = tt
after_bounds_out old mid new header (Err e) (t, c, is, least) fine more d =
    let bounds : HasBounds (t ++ more) = ((header, more), steady_whole header_at header-steady t more header is, fine) in
    (t ++ more, Consumes-trans old mid new t more c d, runs_out (HasBounds (t ++ more)) e bounds)
