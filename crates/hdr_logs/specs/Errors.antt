-- Errors of logs, and those of other calls as errors of logs.
use Rattle.std.specs.Prelude.{◌≡◌, ◌⊎◌, ⊤, Option, Some, None}
use Rattle.hdrhistogram.specs.declared.serialization.errors.CountNotSerializable.{CountNotSerializable}
use Rattle.hdrhistogram.specs.declared.serialization.interval_log.errors.IntervalLogWriterError.{IntervalLogWriterError}
use Rattle.hdrhistogram.specs.declared.serialization.interval_log.errors.IntervalLogWriterError.TheVariants as writer
use Rattle.hdr_input.specs.declared.unit.Unit.{Unit}
use Rattle.hdr_logs.specs.declared.errors.LogError.{LogError}
use Rattle.hdr_logs.specs.declared.errors.LogError.TheVariants.{Conversion, Field, Gzip, Io, MissingUnit, NotALine, NotALog, OtherUnit, TooLong, Write, OutOfMemory}
use Rattle.hdr_logs.specs.declared.headers.UnitName.{UnitName}
use Rattle.hdr_logs.specs.declared.place.Place.{Place}

-- the error of a log that is not written
abbrev pub of_writing : IntervalLogWriterError CountNotSerializable → LogError
of_writing writer.OutOfMemory = OutOfMemory
of_writing error = Write error

-- the name of a unit, or that there is none
abbrev pub named : Option Unit → UnitName
named unit = record { 0 = unit }

-- the error of an interval whose values have another unit than others, or have one where others have none
abbrev pub unit_error : Place → Option Unit → Option Unit → LogError
unit_error place (Some unit) (Some others) = OtherUnit place (named (Some unit)) (named (Some others))
unit_error place None others = MissingUnit place (named None) (named others)
unit_error place (Some unit) None = MissingUnit place (named (Some unit)) (named None)

-- the error of a field in this line that holds no histogram, or of memory
abbrev pub IsFieldError : Place → LogError → Type 0
IsFieldError place (Field at cause) = at ≡ place
IsFieldError place (Conversion at cause) = at ≡ place
IsFieldError place OutOfMemory = ⊤
IsFieldError place error = ⊥

-- the error of an interval that has a unit beside others that have none, or the other way round
abbrev pub IsMissingUnit : LogError → Type 0
IsMissingUnit error = (place : Place) × (unit : UnitName) × (others : UnitName) × (error ≡ MissingUnit place unit others)

-- an error is of this line
abbrev pub IsAt : Place → Place → Type 0
IsAt place at = (at.file ≡ place.file) × (at.line ≡ place.line)

-- this line is not read, for this error: it is none of a log or too long, the reader fails, or memory runs out
abbrev pub IsReadError : Place → LogError → Type 0
IsReadError place (NotALog at text) = IsAt place at × (place.line ≡ 1)
IsReadError place (NotALine at text) = IsAt place at
IsReadError place (Gzip at) = IsAt place at
IsReadError place (TooLong at text) = IsAt place at
IsReadError place (Io file cause) = file ≡ place.file
IsReadError place OutOfMemory = ⊤
IsReadError place error = ⊥

-- an interval is not read or not converted, for this error
abbrev pub IsIntervalError : Place → LogError → Type 0
IsIntervalError place error = IsReadError place error ⊎ ((at : Place) × IsAt place at × IsFieldError at error)
