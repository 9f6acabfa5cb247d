-- The status of an error, as the header names it. 0 is success, and 1 is a closed handle.
use Rattle.std.specs.Prelude.{◌≡◌, ℕ}
use Rattle.hdr_model.specs.declared.errors.CreationError.{CreationError}
use Rattle.hdr_model.specs.declared.errors.CreationError.TheVariants as creation
use Rattle.hdr_model.specs.declared.errors.RecordError.{RecordError}
use Rattle.hdr_model.specs.declared.errors.RecordError.TheVariants as record_error
use Rattle.hdr_model.specs.declared.errors.AdditionError.{AdditionError}
use Rattle.hdr_model.specs.declared.errors.AdditionError.TheVariants as addition
use Rattle.hdr_model.specs.declared.errors.SubtractionError.{SubtractionError}
use Rattle.hdr_model.specs.declared.errors.SubtractionError.TheVariants as subtraction
use Rattle.hdr_convert.specs.declared.errors.ConvertError.{ConvertError}
use Rattle.hdr_convert.specs.declared.errors.ConvertError.TheVariants as converting
use Rattle.hdrhistogram.specs.declared.serialization.errors.CountNotSerializable.{CountNotSerializable}
use Rattle.hdrhistogram.specs.declared.serialization.errors.V2SerializeError.{V2SerializeError}
use Rattle.hdrhistogram.specs.declared.serialization.errors.V2SerializeError.TheVariants as encoding
use Rattle.hdrhistogram.specs.declared.serialization.errors.DeserializeError.{DeserializeError}
use Rattle.hdrhistogram.specs.declared.serialization.errors.DeserializeError.TheVariants as decoding
use Rattle.hdrhistogram.specs.declared.serialization.interval_log.errors.IntervalLogWriterError.{IntervalLogWriterError}
use Rattle.hdrhistogram.specs.declared.serialization.interval_log.errors.IntervalLogWriterError.TheVariants as line

abbrev pub creation_status : CreationError → ℕ
creation_status creation.OutOfMemory = 2
creation_status creation.LowIsZero = 4
creation_status creation.LowExceedsMax = 5
creation_status creation.HighLessThanTwiceLow = 6
creation_status creation.SigFigExceedsMax = 7
creation_status creation.CannotRepresentSigFigBeyondLow = 8
creation_status creation.UsizeTypeTooSmall = 19

abbrev pub record_status : RecordError → ℕ
record_status record_error.OutOfMemory = 2
record_status record_error.ValueOutOfRangeResizeDisabled = 3
record_status record_error.ResizeFailedUsizeTypeTooSmall = 19

abbrev pub addition_status : AdditionError → ℕ
addition_status addition.OutOfMemory = 2
addition_status addition.OtherAddendValueExceedsRange = 3
addition_status addition.ResizeFailedUsizeTypeTooSmall = 19

abbrev pub subtraction_status : SubtractionError → ℕ
subtraction_status subtraction.SubtrahendValueExceedsMinuendRange = 3
subtraction_status subtraction.SubtrahendCountExceedsMinuendCount = 9

-- the status of an error of encoding in memory, which is one of two
abbrev pub IsEncodeStatus : V2SerializeError → ℕ → Type 0
IsEncodeStatus encoding.OutOfMemory status = status ≡ 2
IsEncodeStatus encoding.CountNotSerializable status = status ≡ 10
IsEncodeStatus encoding.UsizeTypeTooSmall status = ⊥
IsEncodeStatus (encoding.IoError cause) status = ⊥

-- the status of an error of decoding bytes
abbrev pub decode_status : DeserializeError → ℕ
decode_status decoding.OutOfMemory = 2
decode_status decoding.UnsuitableCounterType = 9
decode_status (decoding.IoError cause) = 14
decode_status decoding.InvalidCookie = 15
decode_status decoding.UnsupportedFeature = 16
decode_status decoding.InvalidParameters = 17
decode_status decoding.EncodedArrayTooLong = 18
decode_status decoding.UsizeTypeTooSmall = 19

-- the status of an error of bytes in another form than V2 bytes
abbrev pub convert_status : ConvertError → ℕ
convert_status converting.OutOfMemory = 2
convert_status converting.Incomplete = 14
convert_status converting.NotALine = 15
convert_status converting.NotAHistogram = 15
convert_status converting.NotV2Inside = 15
convert_status (converting.OldVersion version) = 16
convert_status converting.Unsupported = 16
convert_status converting.DoubleHistogram = 16
convert_status converting.Bounds = 17
convert_status converting.NotBase64 = 25
convert_status (converting.Inflate e) = 28

-- the status of an error of a line in memory
abbrev pub IsLineStatus : IntervalLogWriterError CountNotSerializable → ℕ → Type 0
IsLineStatus line.OutOfMemory status = status ≡ 2
IsLineStatus (line.IoError cause) status = ⊥
IsLineStatus line.TimeOutOfRange status = status ≡ 21
IsLineStatus (line.SerializeError e) status = status ≡ 10
