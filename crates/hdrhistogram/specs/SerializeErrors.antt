-- The errors of the V2 serializer, and what they leave in the writer.
use Rattle.std.specs.Prelude.{ℕ, List, Option}
use Rattle.std.specs.Io.KnownBytes.{Keeps}
use Rattle.hdr_model.specs.Plain.{Plain}
use Rattle.hdrhistogram.specs.V2.{IsV2, HasTooGreatCount}
use Rattle.hdrhistogram.specs.Streams.{AppendsFront}
use Rattle.hdrhistogram.specs.declared.serialization.errors.V2SerializeError.{V2SerializeError}
use Rattle.hdrhistogram.specs.declared.serialization.errors.V2SerializeError.TheVariants.{CountNotSerializable, UsizeTypeTooSmall, IoError, OutOfMemory}

-- encoding the histogram fails only if a count is too great or memory runs out
abbrev pub IsToBytesError : Plain → V2SerializeError → Type 0
IsToBytesError h CountNotSerializable = HasTooGreatCount h
IsToBytesError h UsizeTypeTooSmall = ⊥
IsToBytesError h (IoError e) = ⊥
IsToBytesError h OutOfMemory = Unit {0}

-- the same, or the writer failed, whatever it holds
abbrev pub IsSerializeError : Plain → V2SerializeError → Type 0
IsSerializeError h CountNotSerializable = HasTooGreatCount h
IsSerializeError h UsizeTypeTooSmall = ⊥
IsSerializeError h (IoError e) = Unit {0}
IsSerializeError h OutOfMemory = Unit {0}

-- on error at most a part of the bytes is written: a proper prefix after an i/o error, and nothing
-- after any other
abbrev pub SerializeFails : Plain → Option (List ℕ) → Option (List ℕ) → V2SerializeError → Type 0
SerializeFails h old new CountNotSerializable = HasTooGreatCount h × Keeps old new
SerializeFails h old new UsizeTypeTooSmall = ⊥
SerializeFails h old new (IoError e) = (bytes : List ℕ) × IsV2 h bytes × AppendsFront old new bytes
SerializeFails h old new OutOfMemory = Keeps old new
