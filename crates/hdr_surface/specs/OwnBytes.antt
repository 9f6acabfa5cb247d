-- What is read of an interval that a serializer of any kind wrote.
use Rattle.std.specs.Prelude.{◌≡◌, ℕ, List, Option, Some, map}
use Rattle.hdr_model.specs.Plain.{Plain}
use Rattle.hdr_log.specs.Grammar.{reading}
use Rattle.hdr_log.specs.Texts.{base64_of, base64_bytes}
use Rattle.hdr_log.specs.Pieces.{entries_of_piece, is_read}
use Rattle.hdrhistogram.specs.LogLeaving.{interval_piece, IsIntervalText}

-- the interval is read, and its field decodes to bytes that the serializer may write
abbrev pub OwnBytesAreRead : (Plain → List ℕ → Type 0) → Type 0
OwnBytesAreRead writes =
    (h : Plain) (tag : Option (List ℕ)) (start duration divisor : ℕ) (text : List ℕ)
    → IsIntervalText writes h tag start duration divisor text
    → (bytes : List ℕ) × writes h bytes × (reading text ≡ map is_read (entries_of_piece (interval_piece h tag start duration divisor bytes)))
    × (base64_bytes (base64_of bytes) ≡ Some bytes)
