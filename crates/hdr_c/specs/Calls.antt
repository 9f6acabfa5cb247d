-- What a call does to the histogram of a handle. A call returns a status: 0 is success, 1 a closed handle, and any other
-- number an error.
use Rattle.std.specs.Prelude.{◌≡◌, ◌⊎◌, ◌-◌, ◌^◌, ◌<◌, ℕ, Bool, false, Option, Some, None, Result, Ok, Err, List, length, take, slice_index}
use Rattle.hdr_model.specs.Plain.{Plain, empty_plain}
use Rattle.hdr_model.specs.Equality.{same_plain}
use Rattle.hdr_model.specs.Merging.{after_add, after_add_correct}
use Rattle.hdr_model.specs.Subtracting.{IsDifference}
use Rattle.hdr_model.specs.CallErrors.{IsCreationError, IsRecordError, IsAdditionError, IsCorrectionError, IsSubtractionError}
use Rattle.hdr_model.specs.declared.errors.CreationError.{CreationError}
use Rattle.hdr_model.specs.declared.errors.RecordError.{RecordError}
use Rattle.hdr_model.specs.declared.errors.AdditionError.{AdditionError}
use Rattle.hdr_model.specs.declared.errors.SubtractionError.{SubtractionError}
use Rattle.hdr_c.specs.declared.handle.Handle.{Handle}
use Rattle.hdr_c.specs.Runs.{after_values}
use Rattle.hdr_c.specs.Status.{creation_status, record_status, addition_status, subtraction_status}

-- the histogram of a handle
abbrev pub held : Handle → Option Plain
held h = h.pointer.held

-- the handle has an empty histogram now, or the bounds are an error or memory ran out
abbrev pub Creates : ℕ → ℕ → ℕ → ℕ → Bool → Option Plain → Option Plain → Type 0
Creates status low high sigfig auto_resize old new =
    ((status ≡ 0) × (new ≡ Some (empty_plain low high sigfig auto_resize)))
    ⊎ ((e : CreationError) × (status ≡ creation_status e) × IsCreationError low high sigfig e × (new ≡ old))

-- what was created is the handle's histogram now, or its creation or the allocation of its handle is the error
abbrev pub Stores : ℕ → Result Plain CreationError → Option Plain → Option Plain → Type 0
Stores status (Ok h) old new = ((status ≡ 0) × (new ≡ Some h)) ⊎ ((status ≡ 2) × (new ≡ old))
Stores status (Err e) old new = (status ≡ creation_status e) × (new ≡ old)

-- the handle has a copy of a second histogram now, or memory ran out
abbrev pub Copies : ℕ → Option Plain → Option Plain → Option Plain → Type 0
Copies status old None new = (status ≡ 1) × (new ≡ old)
Copies status old (Some source) new = ((status ≡ 0) × (new ≡ Some source)) ⊎ ((status ≡ 2) × (new ≡ old))

-- a change that only a closed handle prevents
abbrev pub Changes : ℕ → Option Plain → Option Plain → (Plain → Plain) → Type 0
Changes status None new change = (status ≡ 1) × (new ≡ None)
Changes status (Some old) new change = (status ≡ 0) × (new ≡ Some (change old))

-- the histogram is only read: P holds of it, and Q if the handle is closed
abbrev pub Reads : Option Plain → Option Plain → (Plain → Type 0) → Type 0 → Type 0
Reads None new P Q = (new ≡ None) × Q
Reads (Some h) new P Q = (new ≡ Some h) × P h

-- a value is recorded, or the error has this status and nothing changes
abbrev pub Records : ℕ → ℕ → Option Plain → Option Plain → (Plain → Plain) → Type 0
Records status value None new change = (status ≡ 1) × (new ≡ None)
Records status value (Some old) new change =
    ((status ≡ 0) × (new ≡ Some (change old)))
    ⊎ ((e : RecordError) × (status ≡ record_status e) × IsRecordError old value e × (new ≡ Some old))

-- the recording of values ended with this status after the first `done` of them: all, or those before the first error
abbrev pub EndsAfter : ℕ → List ℕ → ℕ → Plain → Type 0
EndsAfter status values done h =
    ((status ≡ 0) × (done ≡ length values))
    ⊎ ((e : RecordError) × (status ≡ record_status e) × (done < length values) × IsRecordError h (slice_index values done) e)

-- the first `done` values are recorded
abbrev pub RecordsMany : ℕ → List ℕ → ℕ → Option Plain → Option Plain → Type 0
RecordsMany status values done None new = (status ≡ 1) × (done ≡ 0) × (new ≡ None)
RecordsMany status values done (Some old) new =
    (new ≡ Some (after_values (take done values) old)) × EndsAfter status values done (after_values (take done values) old)

-- a second histogram is added
abbrev pub Adds : ℕ → Option Plain → Option Plain → Option Plain → Type 0
Adds status None source new = (status ≡ 1) × (new ≡ None)
Adds status (Some old) None new = (status ≡ 1) × (new ≡ Some old)
Adds status (Some old) (Some source) new =
    ((status ≡ 0) × (new ≡ Some (after_add (2 ^ 64 - 1) old source)))
    ⊎ ((e : AdditionError) × (status ≡ addition_status e) × IsAdditionError old source e × (new ≡ Some old))

-- a second histogram is added, corrected for an interval
abbrev pub AddsCorrected : ℕ → ℕ → Option Plain → Option Plain → Option Plain → Type 0
AddsCorrected status interval None source new = (status ≡ 1) × (new ≡ None)
AddsCorrected status interval (Some old) None new = (status ≡ 1) × (new ≡ Some old)
AddsCorrected status interval (Some old) (Some source) new =
    ((status ≡ 0) × (new ≡ Some (after_add_correct (2 ^ 64 - 1) old source interval)))
    ⊎ ((e : RecordError) × (status ≡ record_status e) × IsCorrectionError old source e × (new ≡ Some old))

-- a second histogram is subtracted
abbrev pub Subtracts : ℕ → Option Plain → Option Plain → Option Plain → Type 0
Subtracts status None other new = (status ≡ 1) × (new ≡ None)
Subtracts status (Some old) None new = (status ≡ 1) × (new ≡ Some old)
Subtracts status (Some old) (Some other) new =
    ((status ≡ 0) × (found : Plain) × (new ≡ Some found) × (other.total ≡ 0 → found ≡ old)
    × (0 < other.total → IsDifference old other found))
    ⊎ ((e : SubtractionError) × (status ≡ subtraction_status e) × IsSubtractionError old other e × (new ≡ Some old))

-- whether two histograms are equal, and false if a handle is closed
abbrev pub Compares : Bool → Option Plain → Option Plain → Type 0
Compares same None other = same ≡ false
Compares same (Some h) None = same ≡ false
Compares same (Some h) (Some k) = same ≡ same_plain h k
