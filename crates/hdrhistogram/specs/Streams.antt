-- What writing leaves in a buffer of the caller's, and in a writer whose bytes are known.
use Rattle.std.specs.Prelude.{◌≡◌, ℕ, ◌<◌, ◌++◌, List, length, take, drop, Option}
use Rattle.std.specs.Io.KnownBytes.{Appends, Consumes}
use Rattle.hdrhistogram.specs.declared.serialization.errors.DeserializeError.{DeserializeError}
use Rattle.hdrhistogram.specs.declared.serialization.errors.DeserializeError.TheVariants.{IoError, InvalidCookie, UnsupportedFeature, UnsuitableCounterType, InvalidParameters, UsizeTypeTooSmall, EncodedArrayTooLong, OutOfMemory}

-- the first `count` bytes of a buffer are now bytes of which P holds, and the bytes after them are
-- unchanged
abbrev pub WritesFront : (List ℕ → Type 0) → List ℕ → List ℕ → ℕ → Type 0
WritesFront P old new count =
    (text : List ℕ) × P text × (count ≡ length text) × (new ≡ text ++ drop count old)

-- known bytes grow by a proper prefix of the text
abbrev pub AppendsFront : Option (List ℕ) → Option (List ℕ) → List ℕ → Type 0
AppendsFront old new text = (n : ℕ) × (n < length text) × Appends old new (take n text)

-- known bytes lose a prefix, shorter than `limit`
abbrev pub ConsumesFewer : Option (List ℕ) → Option (List ℕ) → ℕ → Type 0
ConsumesFewer old new limit = (bytes : List ℕ) × (length bytes < limit) × Consumes old new bytes

-- the reader failed or ended, or memory ran out
abbrev pub IsStreamError : DeserializeError → Type 0
IsStreamError (IoError cause) = Unit {0}
IsStreamError OutOfMemory = Unit {0}
IsStreamError InvalidCookie = ⊥
IsStreamError UnsupportedFeature = ⊥
IsStreamError UnsuitableCounterType = ⊥
IsStreamError InvalidParameters = ⊥
IsStreamError UsizeTypeTooSmall = ⊥
IsStreamError EncodedArrayTooLong = ⊥
