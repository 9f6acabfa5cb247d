-- When a call returns an error. (The documentation of the Rust crate's errors. `OutOfMemory` is our own: there a failed
-- allocation ends the process.)
use Rattle.std.specs.Prelude.{◌≡◌, ◌⊎◌, ◌+◌, ◌*◌, ◌^◌, ◌<◌, ◌≤◌, ℕ, true, false, slice_index}
use Rattle.hdr_model.specs.Plain.{Plain, reach, max_of, resolution}
use Rattle.hdr_model.specs.Merging.{highest_top, lowest_values}
use Rattle.hdr_model.specs.declared.errors.AdditionError.{AdditionError}
use Rattle.hdr_model.specs.declared.errors.AdditionError.TheVariants as addition
use Rattle.hdr_model.specs.declared.errors.RecordError.{RecordError}
use Rattle.hdr_model.specs.declared.errors.RecordError.TheVariants.{ValueOutOfRangeResizeDisabled, ResizeFailedUsizeTypeTooSmall, OutOfMemory}
use Rattle.hdr_base.specs.Classes.{unit_of, digits_of, HasScale}
use Rattle.hdr_model.specs.declared.errors.CreationError.{CreationError}
use Rattle.hdr_model.specs.declared.errors.CreationError.TheVariants as make
use Rattle.hdr_model.specs.Recording.{after_reset}
use Rattle.hdr_model.specs.Samples.{in_class}
use Rattle.hdr_model.specs.declared.errors.SubtractionError.{SubtractionError}
use Rattle.hdr_model.specs.declared.errors.SubtractionError.TheVariants.{SubtrahendValueExceedsMinuendRange, SubtrahendCountExceedsMinuendCount}

-- a value has a bin, or bins can be made for it
abbrev pub IsRecordable : Plain → ℕ → Type 0
IsRecordable h x = (x ≤ reach h) ⊎ (h.auto_resize ≡ true)

-- a value past the reach is an error if the bins may not grow, and otherwise only if the allocation fails
abbrev pub IsRecordError : Plain → ℕ → RecordError → Type 0
IsRecordError h v ValueOutOfRangeResizeDisabled = (reach h < v) × (h.auto_resize ≡ false)
IsRecordError h v ResizeFailedUsizeTypeTooSmall = ⊥
IsRecordError h v OutOfMemory = (reach h < v) × (h.auto_resize ≡ true)

-- bounds that a histogram can have
pub record IsBounds (low high sigfig : ℕ) : Type 0 where
  pub low_fits : low < 2 ^ 63
  pub wide : 2 * low ≤ high
  pub scale : HasScale low sigfig

-- the error is that of the first bound that does not hold; if all hold, it is only a failed allocation
abbrev pub IsCreationError : ℕ → ℕ → ℕ → CreationError → Type 0
IsCreationError low high sigfig make.LowIsZero = low < 1
IsCreationError low high sigfig make.LowExceedsMax = 2 ^ 63 ≤ low
IsCreationError low high sigfig make.HighLessThanTwiceLow = (0 < low) × (low < 2 ^ 63) × (high < 2 * low)
IsCreationError low high sigfig make.SigFigExceedsMax = (0 < low) × (low < 2 ^ 63) × (2 * low ≤ high) × (5 < sigfig)
IsCreationError low high sigfig make.CannotRepresentSigFigBeyondLow = (0 < low) × (low < 2 ^ 63) × (2 * low ≤ high) × (sigfig ≤ 5) × (63 < unit_of low + digits_of sigfig)
IsCreationError low high sigfig make.UsizeTypeTooSmall = ⊥
IsCreationError low high sigfig make.OutOfMemory = IsBounds low high sigfig

-- the error that unit and digits exceed 63 bits comes only for a low from 2 ^ 46 on
abbrev pub IsForGreatLow : ℕ → CreationError → Type 0
IsForGreatLow low make.CannotRepresentSigFigBeyondLow = 2 ^ 46 ≤ low
IsForGreatLow low _ = Unit {0}

-- growing to a value past the reach is an error if the bins may not grow, and otherwise only if the allocation fails
abbrev pub IsResizeError : Plain → ℕ → AdditionError → Type 0
IsResizeError h x addition.OtherAddendValueExceedsRange = (reach h < x) × (h.auto_resize ≡ false)
IsResizeError h x addition.ResizeFailedUsizeTypeTooSmall = ⊥
IsResizeError h x addition.OutOfMemory = (reach h < x) × (h.auto_resize ≡ true)

-- a nonempty source is an error if its greatest value has no bin, and none can be made
abbrev pub IsAdditionError : Plain → Plain → AdditionError → Type 0
IsAdditionError h s e = (0 < s.total) × IsResizeError h (max_of s) e

-- a source to be corrected is an error if recording the top of its last nonempty class is one
abbrev pub IsCorrectionError : Plain → Plain → RecordError → Type 0
IsCorrectionError h s e = IsRecordError h (highest_top s) e

-- the target after an error of `set_to`: unchanged if the allocation failed, and reset if a value is out of range
abbrev pub LeavesSet : Plain → Plain → AdditionError → Type 0
LeavesSet old new addition.OutOfMemory = new ≡ old
LeavesSet old new addition.OtherAddendValueExceedsRange = new ≡ after_reset old
LeavesSet old new addition.ResizeFailedUsizeTypeTooSmall = ⊥

-- the target after an error of `set_to_corrected`: unchanged if the allocation failed, and reset if a value is out of range
abbrev pub LeavesCorrected : Plain → Plain → RecordError → Type 0
LeavesCorrected old new OutOfMemory = new ≡ old
LeavesCorrected old new ValueOutOfRangeResizeDisabled = new ≡ after_reset old
LeavesCorrected old new ResizeFailedUsizeTypeTooSmall = ⊥

-- a nonempty source is an error if its greatest value is past the reach, or if a class holds less than is subtracted
abbrev pub IsSubtractionError : Plain → Plain → SubtractionError → Type 0
IsSubtractionError h s SubtrahendValueExceedsMinuendRange = (0 < s.total) × (reach h < max_of s)
IsSubtractionError h s SubtrahendCountExceedsMinuendCount =
    (0 < s.total) × (max_of s ≤ reach h) × ((i : ℕ) × (slice_index h.counts i < in_class (resolution h) i (lowest_values s)))
