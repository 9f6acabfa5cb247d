-- The scales of values of intervals, and their conversion.
use Rattle.std.specs.Prelude.{◌≡◌, ◌↔◌, ◌⊎◌, ◌≤◌, ℕ, zero, suc, ◌+◌, ◌-◌, ◌*◌, ◌^◌, List, map, Bool, true, nat_lt, Option, Some, None, IsSome, unwrap_or, ⊤}
use Rattle.std.specs.Option.{option_map}
use Rattle.std.specs.List.{All, Any}
use Rattle.hdr_base.specs.Classes.{Resolution, top_of}
use Rattle.hdr_input.specs.declared.unit.Unit.{Unit}
use Rattle.hdr_input.specs.Units.{exponent}
use Rattle.hdr_log.specs.Texts.{base64_of}
use Rattle.hdr_model.specs.Plain.{Plain, empty_plain, resolution}
use Rattle.hdr_model.specs.Recording.{Times, after_records}
use Rattle.hdr_model.specs.Merging.{classes_from}
use Rattle.hdrhistogram.specs.FieldRead.{IsHeldIn}
use Rattle.hdrhistogram.specs.V2.{IsV2}
use Rattle.hdr_logs.specs.Errors.{IsMissingUnit}
use Rattle.hdr_logs.specs.Stored.{view_of_stored, decimals_of}
use Rattle.hdr_logs.specs.declared.errors.LogError.{LogError}
use Rattle.hdr_logs.specs.declared.errors.LogError.TheVariants.{Conversion, Field, TooLarge, Write, OutOfMemory}
use Rattle.hdr_logs.specs.declared.stored.StoredInterval.{StoredInterval}

-- a second is 10 to this power in a unit; without a unit it is 0
abbrev pub exponent_of : Option Unit → ℕ
exponent_of unit = unwrap_or (option_map exponent unit) 0

-- values of an interval are in units of 10 to minus this power, of a second or of 1
abbrev pub power_of : StoredInterval → ℕ
power_of s = decimals_of s + exponent_of s.unit

-- the greatest that something is of all in a list, and 0 if the list is empty
abbrev pub IsGreatest : (StoredInterval → ℕ) → List StoredInterval → ℕ → Type 0
IsGreatest of all greatest = (high : ℕ) → (greatest ≤ high) ↔ All (λ s. of s ≤ high) all

-- the finest unit of intervals, and as many decimals as one of them has in that unit; either all of them have a unit, or none has
pub record IsFinest (all : List StoredInterval) (decimals : ℕ) (unit : Option Unit) : Type 0 where
  pub finest : IsGreatest (λ s. exponent_of s.unit) all (exponent_of unit)
  pub most : IsGreatest (λ s. power_of s - exponent_of unit) all decimals
  pub known : All (λ s. IsSome s.unit ↔ IsSome unit) all

-- one has a unit, and the other none
abbrev pub IsOtherKind : Option Unit → Option Unit → Type 0
IsOtherKind (Some one) None = ⊤
IsOtherKind None (Some other) = ⊤
IsOtherKind one other = ⊥

-- some intervals have a unit, and others have none
pub record HaveMixedUnits (all : List StoredInterval) : Type 0 where
  pub some : Any (λ s. IsSome s.unit) all
  pub none : Any (λ s. s.unit ≡ None) all

-- by which factor the values of an interval are multiplied in a scale
abbrev pub factor_of : ℕ → Option Unit → StoredInterval → ℕ
factor_of decimals unit s = 10 ^ (decimals + exponent_of unit - power_of s)

-- factors are not made, for this error: one does not fit 64 bits, or memory runs out
abbrev pub IsFactorError : ℕ → Option Unit → List StoredInterval → LogError → Type 0
IsFactorError decimals unit all (TooLarge place) = Any (λ s. 2 ^ 64 ≤ factor_of decimals unit s) all
IsFactorError decimals unit all OutOfMemory = ⊤
IsFactorError decimals unit all error = ⊥

-- intervals have no factors, for this error: some have no unit beside others that have one, or it is one of the factors in the finest scale
abbrev pub IsScaleError : List StoredInterval → LogError → Type 0
IsScaleError all error =
    (IsMissingUnit error × HaveMixedUnits all) ⊎ ((decimals : ℕ) × (unit : Option Unit) × IsFinest all decimals unit × IsFactorError decimals unit all error)

-- an interval is not converted, for this error: a value or a count is too great, its field holds no histogram, or memory runs out
abbrev pub IsConversionError : LogError → Type 0
IsConversionError (TooLarge place) = ⊤
IsConversionError (Field place cause) = ⊤
IsConversionError (Conversion place cause) = ⊤
IsConversionError (Write cause) = ⊤
IsConversionError OutOfMemory = ⊤
IsConversionError error = ⊥

-- intervals are not converted to one scale, for this error
abbrev pub IsOneScaleError : List StoredInterval → LogError → Type 0
IsOneScaleError all error = (IsMissingUnit error × HaveMixedUnits all) ⊎ IsConversionError error

-- the values of an interval have these decimals and this unit
abbrev pub IsIn : ℕ → Option Unit → StoredInterval → Type 0
IsIn decimals unit s = (decimals_of s ≡ decimals) × (s.unit ≡ unit)

-- a scale is as fine as that of the values of an interval, or finer
abbrev pub IsAsFine : ℕ → Option Unit → StoredInterval → Type 0
IsAsFine decimals unit s = power_of s ≤ decimals + exponent_of unit

-- the values of an interval are in coarser units than those of a scale
abbrev pub is_coarser : ℕ → Option Unit → StoredInterval → Bool
is_coarser decimals unit s = nat_lt (power_of s) (decimals + exponent_of unit)

abbrev pub IsFactor : ℕ → Option Unit → StoredInterval → ℕ → Type 0
IsFactor decimals unit s factor = factor ≡ factor_of decimals unit s

-- a class, each of its samples the greatest value of it times a factor
abbrev pub top_times : Resolution → ℕ → Times → Times
top_times g factor t = record { value = factor * top_of g t.value; times = t.times }

-- the histogram of the same digits, which grows, of the greatest value of each class times a factor
abbrev pub multiplied : ℕ → Plain → Plain
multiplied factor h =
    after_records (2 ^ 64 - 1) (empty_plain 1 2 h.sigfig true)
    (map (top_times (resolution h) factor) (classes_from (resolution h) 0 h.counts))

-- a field holds the histogram of another, multiplied by a factor
abbrev pub HoldsMultiplied : ℕ → (old new : List ℕ) → Type 0
HoldsMultiplied factor old new =
    (h : Plain) × (bytes : List ℕ) × IsHeldIn (2 ^ 64 - 1) old h × (new ≡ base64_of bytes) × IsV2 (multiplied factor h) bytes

-- a field in units that are finer by a power of ten: it stays, if they are the same
abbrev pub IsFinerField : (more : ℕ) → (old new : List ℕ) → Type 0
IsFinerField zero old new = new ≡ old
IsFinerField (suc more) old new = HoldsMultiplied (10 ^ suc more) old new

-- an interval with its values in a scale that is as fine or finer
pub record IsConverted (old new : StoredInterval) : Type 0 where
  pub finer : power_of old ≤ power_of new
  pub field : IsFinerField (power_of new - power_of old) (view_of_stored old).field (view_of_stored new).field
  pub start : new.start ≡ old.start
  pub tag : (view_of_stored new).tag ≡ (view_of_stored old).tag
  pub duration : (view_of_stored new).duration ≡ (view_of_stored old).duration
  pub place : new.place ≡ old.place
