-- Histograms after numbers.
use Rattle.std.specs.Prelude.{◌≡◌, ℕ, ◌+◌, ◌-◌, ◌*◌, ◌%◌, ◌^◌, ◌<◌, ◌≤◌, min, max, Bool, true, false, if◌then◌else◌, Result, Ok, Err, refl}
use Rattle.std.proofs.Common.{◌∙◌}
use Rattle.hdr_model.specs.Plain.{Plain, empty_plain, reach}
use Rattle.hdr_model.specs.Correction.{after_correct}
use Rattle.hdr_input.specs.Numbers.{in_units}
use Rattle.hdr_input.specs.Rounding.{is_rounded}
use Rattle.hdr_model.specs.declared.errors.RecordError.{RecordError}
use Rattle.hdr_model.specs.declared.errors.RecordError.TheVariants as record_error
use Rattle.hdr_input.specs.declared.cause.Cause.{Cause}
use Rattle.hdr_input.specs.declared.cause.Cause.TheVariants.{TooLarge, TooLong, OutOfMemory}
use Rattle.hdr_input.specs.declared.number.Number.{Number}
use Rattle.hdr_input.specs.declared.tally.Recording.{Recording}
use Rattle.hdr_input.specs.declared.tally.Tally.{Tally}
use Rattle.hdr_input.specs.declared.wide.Wide.{Wide}
use Rattle.hdr_input.specs.Decimals.{StandsFor}

-- the histogram after a number, in units of these decimals, and the missing samples before it at an expected interval
abbrev pub after_number : Plain → Number → ℕ → ℕ → Plain
after_number h number decimals interval = after_correct (2 ^ 64 - 1) h (in_units number.digits number.decimals decimals) 1 interval

-- the expected interval in units of these decimals, or the greatest value if that is less
abbrev pub IsInterval : Number → ℕ → ℕ → Type 0
IsInterval interval decimals units = interval.decimals ≤ 18 → decimals ≤ 18 → units ≡ min (in_units interval.digits interval.decimals decimals) (2 ^ 64 - 1)

-- a tally without numbers, which records them so
pub record IsEmptyTally (r : Recording) (t : Tally) : Type 0 where
  pub histogram : t.histogram ≡ empty_plain 1 2 r.sigfig true
  pub decimals : t.decimals ≡ r.decimals
  pub interval : IsInterval r.interval r.decimals t.interval
  pub least : t.min ≡ 2 ^ 64 - 1
  pub greatest : t.max ≡ 0
  pub sum : t.sum ≡ 0
  pub rounded : t.rounded ≡ 0

-- the least of a value and of the missing samples before it at an expected interval, 0 for none
abbrev pub IsLeast : ℕ → ℕ → ℕ → Type 0
IsLeast value interval least =
    (0 < interval → 2 * interval ≤ value → least ≡ interval + value % interval)
    × (value < 2 * interval → least ≡ value) × (interval ≡ 0 → least ≡ value)

-- how many numbers were rounded after one more, which was or was not
abbrev pub with_rounding : ℕ → Bool → ℕ
with_rounding n is_rounded = if is_rounded then (n + 1) % 2 ^ 64 else n

-- a tally has taken a number: its histogram, its extremes, its sum and how many numbers were rounded are those after it
abbrev pub Takes : Tally → Tally → Number → Type 0
Takes old new number =
    (new.histogram ≡ after_number old.histogram number old.decimals old.interval)
    × ((least : ℕ) × IsLeast (in_units number.digits number.decimals old.decimals) old.interval least × (new.min ≡ min old.min least))
    × (new.max ≡ max old.max (in_units number.digits number.decimals old.decimals))
    × (new.sum ≡ (old.sum + in_units number.digits number.decimals old.decimals) % 2 ^ 128)
    × (new.rounded ≡ with_rounding old.rounded (is_rounded number old.decimals))

-- a tally has taken a number some times, which was rounded before or not: its histogram, its extremes, its sum and how many numbers were rounded are those after it
abbrev pub TakesTimes : Tally → Tally → Number → ℕ → Bool → Type 0
TakesTimes old new number times is_rounded =
    (new.histogram ≡ after_correct (2 ^ 64 - 1) old.histogram (in_units number.digits number.decimals old.decimals) times old.interval)
    × ((least : ℕ) × IsLeast (in_units number.digits number.decimals old.decimals) old.interval least × (new.min ≡ min old.min least))
    × (new.max ≡ max old.max (in_units number.digits number.decimals old.decimals))
    × (new.sum ≡ (old.sum + in_units number.digits number.decimals old.decimals * times) % 2 ^ 128)
    × (new.rounded ≡ (if is_rounded then (old.rounded + times) % 2 ^ 64 else old.rounded))

-- the unit of a tally stays
abbrev pub KeepsUnit : Tally → Tally → Type 0
KeepsUnit old new = (new.decimals ≡ old.decimals) × (new.interval ≡ old.interval)

pub keeps_unit_of_none : (t : Tally) → KeepsUnit t t
keeps_unit_of_none t = (refl, refl)

pub keeps_unit_after : (a b c : Tally) → KeepsUnit a b → KeepsUnit b c → KeepsUnit a c
keeps_unit_after a b c first more = (more.0 ∙ first.0, more.1 ∙ first.1)

-- a tally after a number that was recorded, and rounded or not
abbrev pub after_rounding : Tally → Bool → Tally
after_rounding t is_rounded = record t { rounded = with_rounding t.rounded is_rounded }

-- a tally has taken a number that stands for a longer one, which was rounded or not
abbrev pub TakesRounded : Tally → Tally → Number → Bool → Type 0
TakesRounded old new number is_rounded = (between : Tally) × Takes old between number × (new ≡ after_rounding between is_rounded)

-- a number, rounded to decimals
abbrev pub rounded_to : ℕ → Number → Number
rounded_to decimals x = record { digits = in_units x.digits x.decimals decimals; decimals = decimals }

-- a tally has taken the number that a wide one stands for, in its unit, and counted whether it was rounded
abbrev pub TakesWide : Tally → Tally → Wide → Type 0
TakesWide old new wide = (x : Number) → StandsFor wide x → TakesRounded old new (rounded_to old.decimals x) (is_rounded x old.decimals)

-- it has taken it some times
abbrev pub TakesWideTimes : Tally → Tally → Wide → ℕ → Type 0
TakesWideTimes old new wide times = (x : Number) → StandsFor wide x → TakesTimes old new (rounded_to old.decimals x) times (is_rounded x old.decimals)

-- a tally whose sum has as many units more as `times` numbers have
abbrev pub after_copies : Tally → ℕ → ℕ → Tally
after_copies t units times = record t { sum = (t.sum + units * times) % 2 ^ 128 }

-- a number is not recorded, for this cause: it is too large in the unit of the tally, or memory runs out for more bins
abbrev pub IsTallyError : Tally → Number → Cause → Type 0
IsTallyError tally number TooLarge = tally.decimals ≤ 18 → number.decimals ≤ 18
    → tally.histogram.auto_resize ≡ true → 2 ^ 64 ≤ in_units number.digits number.decimals tally.decimals
IsTallyError tally number OutOfMemory = reach tally.histogram < in_units number.digits number.decimals tally.decimals
IsTallyError tally number _ = ⊥

-- a value was not recorded, for this cause
abbrev pub IsCauseOf : Result Unit RecordError → Cause → Type 0
IsCauseOf (Ok _) cause = ⊥
IsCauseOf (Err record_error.OutOfMemory) cause = cause ≡ OutOfMemory
IsCauseOf (Err _) cause = cause ≡ TooLarge

-- a line may be skipped for any cause but these
abbrev pub may_be_skipped : Cause → Bool
may_be_skipped (TooLong length) = false
may_be_skipped OutOfMemory = false
may_be_skipped _ = true

-- how many lines were skipped after one that was skipped or not
abbrev pub with_skipped : ℕ → Bool → ℕ
with_skipped n is_skipped = if is_skipped then min (n + 1) (2 ^ 64 - 1) else n
