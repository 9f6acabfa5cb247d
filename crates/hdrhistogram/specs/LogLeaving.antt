-- What a call that writes to a log leaves in the writer.
use Rattle.std.specs.Prelude.{◌≡◌, ℕ, Bool, true, false, List, Option, Result, Ok, Err}
use Rattle.std.specs.Io.KnownBytes.{Appends, Keeps}
use Rattle.hdr_model.specs.Plain.{Plain, max_of}
use Rattle.hdr_log.specs.Texts.{AreBytes, IsTimeInRange, to_thousandths, max_thousandths, base64_of}
use Rattle.hdr_log.specs.Pieces.{Piece, Measured, IsPiece, piece_text}
use Rattle.hdrhistogram.specs.Streams.{AppendsFront}
use Rattle.hdrhistogram.specs.V2.{HasTooGreatCount}
use Rattle.hdrhistogram.specs.declared.serialization.errors.CountNotSerializable.{CountNotSerializable}
use Rattle.hdrhistogram.specs.declared.serialization.interval_log.errors.IntervalLogWriterError.{IntervalLogWriterError}
use Rattle.hdrhistogram.specs.declared.serialization.interval_log.errors.IntervalLogWriterError.TheVariants.{SerializeError, IoError, TimeOutOfRange, OutOfMemory}

-- On error at most a part of the output is written, of which P holds: a proper prefix after an i/o
-- error, and nothing after any other. Q holds of the serializer's error.
abbrev pub WriteFails : {E : Type 0} → (List ℕ → Type 0) → (E → Type 0) → Option (List ℕ) → Option (List ℕ) → IntervalLogWriterError E → Type 0
WriteFails P Q old new (SerializeError e) = Q e × Keeps old new
WriteFails P Q old new (IoError e) = (text : List ℕ) × P text × AppendsFront old new text
WriteFails P Q old new TimeOutOfRange = Keeps old new
WriteFails P Q old new OutOfMemory = Keeps old new

-- all of an output of which P holds is written, or there is an error
abbrev pub WritesText : {E : Type 0} → (List ℕ → Type 0) → (E → Type 0) → Option (List ℕ) → Option (List ℕ) → Result (Unit {0}) (IntervalLogWriterError E) → Type 0
WritesText P Q old new (Ok u) = (text : List ℕ) × P text × Appends old new text
WritesText P Q old new (Err e) = WriteFails P Q old new e

-- the error is `TimeOutOfRange`
abbrev pub is_time_error : {A E : Type 0} → Result A (IntervalLogWriterError E) → Bool
is_time_error (Ok u) = false
is_time_error (Err (IoError e)) = false
is_time_error (Err (SerializeError e)) = false
is_time_error (Err TimeOutOfRange) = true
is_time_error (Err OutOfMemory) = false

-- the error is the writer's
abbrev pub IsIoError : {E : Type 0} → IntervalLogWriterError E → Type 0
IsIoError (IoError cause) = Unit {0}
IsIoError e = ⊥

-- the error is not the serializer's
abbrev pub IsNoSerializeError : {E : Type 0} → IntervalLogWriterError E → Type 0
IsNoSerializeError (SerializeError e) = ⊥
IsNoSerializeError e = Unit {0}

-- why a histogram is not serialized: the serializer returned an error, or the buffer could not grow
abbrev pub IsSerializerError : {E : Type 0} → (E → Type 0) → IntervalLogWriterError E → Type 0
IsSerializerError Q (SerializeError e) = Q e
IsSerializerError Q (IoError e) = ⊥
IsSerializerError Q TimeOutOfRange = ⊥
IsSerializerError Q OutOfMemory = Unit {0}

-- why a histogram has no line of V2 bytes: a count is too great, a time is out of range, or memory ran out. Times are in
-- nanoseconds
abbrev pub IsV2LineError : Plain → ℕ → ℕ → IntervalLogWriterError CountNotSerializable → Type 0
IsV2LineError h start duration (SerializeError e) = HasTooGreatCount h
IsV2LineError h start duration (IoError e) = ⊥
IsV2LineError h start duration TimeOutOfRange = IsTimeInRange start × IsTimeInRange duration → ⊥
IsV2LineError h start duration OutOfMemory = Unit {0}

-- a histogram's interval by its bytes; times are in nanoseconds
abbrev pub interval_piece : Plain → Option (List ℕ) → ℕ → ℕ → ℕ → List ℕ → Piece
interval_piece h tag start duration divisor bytes =
    Measured tag (to_thousandths start) (to_thousandths duration) (max_thousandths (max_of h) divisor) (base64_of bytes)

-- the line of a histogram's interval, by bytes that the serializer may write
abbrev pub IsIntervalText : (Plain → List ℕ → Type 0) → Plain → Option (List ℕ) → ℕ → ℕ → ℕ → List ℕ → Type 0
IsIntervalText writes h tag start duration divisor text =
    (bytes : List ℕ) × writes h bytes × IsPiece (interval_piece h tag start duration divisor bytes)
    × (text ≡ piece_text (interval_piece h tag start duration divisor bytes)) × AreBytes bytes
