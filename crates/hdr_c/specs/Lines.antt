-- The line of an interval, in the caller's memory. Times are in nanoseconds.
use Rattle.std.specs.Prelude.{◌≡◌, ◌⊎◌, ◌+◌, ◌*◌, ◌==◌, nat_lt, if◌then◌else◌, Bool, true, false, ℕ, List, Option, Some, None, length}
use Rattle.std.specs.Str.{is_utf8}
use Rattle.hdr_log.specs.Grammar.{is_tag}
use Rattle.hdr_log.specs.Pieces.{Piece, Comment, piece_text}
use Rattle.hdr_log.specs.Texts.{IsTimeInRange, to_thousandths}
use Rattle.hdr_model.specs.Plain.{Plain}
use Rattle.hdrhistogram.specs.LogLeaving.{IsIntervalText, IsV2LineError}
use Rattle.hdrhistogram.specs.V2.{IsV2}
use Rattle.hdrhistogram.specs.declared.serialization.errors.CountNotSerializable.{CountNotSerializable}
use Rattle.hdrhistogram.specs.declared.serialization.interval_log.errors.IntervalLogWriterError.{IntervalLogWriterError}
use Rattle.hdr_c.specs.Bytes.{IsCompressedV2, IsCompressedStatus, Puts}
use Rattle.hdr_c.specs.Status.{IsLineStatus}

-- a time, unless the nanoseconds are a second or more
abbrev pub time_at : ℕ → ℕ → Option ℕ
time_at seconds nanos = if nat_lt nanos 1_000_000_000 then Some (seconds * 1_000_000_000 + nanos) else None

-- the tag of bytes, none of no bytes, unless they are not a tag
abbrev pub tag_at : List ℕ → Option (Option (List ℕ))
tag_at bytes = if length bytes == 0 then Some None else (if is_tag bytes then Some (Some bytes) else None)

-- the buffer is unchanged, and the status is this
abbrev pub PutsNone : ℕ → ℕ → List ℕ → List ℕ → ℕ → Type 0
PutsNone wanted status before after needed = (status ≡ wanted) × (needed ≡ 0) × (after ≡ before)

-- the line of an interval is at the start of the buffer now, with bytes that the histogram is written as, if its times and its tag
-- are valid and the handle has a histogram; or the status is that of an error of which `fails` holds
abbrev pub PutsLineAs : (Plain → List ℕ → Type 0) → (Plain → ℕ → ℕ → ℕ → Type 0) → ℕ → Option Plain → Option ℕ → Option ℕ → Option (Option (List ℕ)) → List ℕ → List ℕ → ℕ → Type 0
PutsLineAs writes fails status h None duration tag before after needed = PutsNone 21 status before after needed
PutsLineAs writes fails status h (Some start) None tag before after needed = PutsNone 21 status before after needed
PutsLineAs writes fails status h (Some start) (Some duration) None before after needed = PutsNone 22 status before after needed
PutsLineAs writes fails status None (Some start) (Some duration) (Some tag) before after needed = PutsNone 1 status before after needed
PutsLineAs writes fails status (Some h) (Some start) (Some duration) (Some tag) before after needed =
    Puts (IsIntervalText writes h tag start duration 1) status before after needed
    ⊎ (fails h start duration status × (needed ≡ 0) × (after ≡ before))

-- the status of an error of a line of V2 bytes
abbrev pub IsV2LineStatus : Plain → ℕ → ℕ → ℕ → Type 0
IsV2LineStatus h start duration status =
    (e : IntervalLogWriterError CountNotSerializable) × IsV2LineError h start duration e × IsLineStatus e status

-- the line has V2 bytes
abbrev pub PutsLine : ℕ → Option Plain → Option ℕ → Option ℕ → Option (Option (List ℕ)) → List ℕ → List ℕ → ℕ → Type 0
PutsLine = PutsLineAs IsV2 IsV2LineStatus

-- the status of an error of compressed bytes, or 21: a time is out of range
abbrev pub IsCompressedLineStatus : Plain → ℕ → ℕ → ℕ → Type 0
IsCompressedLineStatus h start duration status =
    IsCompressedStatus h status ⊎ ((status ≡ 21) × (IsTimeInRange start × IsTimeInRange duration → ⊥))

-- the line has compressed V2 bytes
abbrev pub PutsCompressedLine : ℕ → Option Plain → Option ℕ → Option ℕ → Option (Option (List ℕ)) → List ℕ → List ℕ → ℕ → Type 0
PutsCompressedLine = PutsLineAs IsCompressedV2 IsCompressedLineStatus

-- a piece of a log is at the start of the buffer now, or memory ran out and it is unchanged
abbrev pub PutsPiece : Piece → ℕ → List ℕ → List ℕ → ℕ → Type 0
PutsPiece piece status before after needed = Puts (λ text. text ≡ piece_text piece) status before after needed ⊎ PutsNone 2 status before after needed

-- a comment is at the start of the buffer now, if it is UTF-8
abbrev pub PutsCommentIf : Bool → ℕ → List ℕ → List ℕ → List ℕ → ℕ → Type 0
PutsCommentIf true status comment before after needed = PutsPiece (Comment comment) status before after needed
PutsCommentIf false status comment before after needed = PutsNone 29 status before after needed

abbrev pub PutsComment : ℕ → List ℕ → List ℕ → List ℕ → ℕ → Type 0
PutsComment status comment before after needed = PutsCommentIf (is_utf8 comment) status comment before after needed

-- the header of a time is at the start of the buffer now, if the time is in range
abbrev pub PutsHeader : (ℕ → Piece) → ℕ → Option ℕ → List ℕ → List ℕ → ℕ → Type 0
PutsHeader piece status None before after needed = PutsNone 21 status before after needed
PutsHeader piece status (Some time) before after needed =
    (IsTimeInRange time × PutsPiece (piece (to_thousandths time)) status before after needed)
    ⊎ ((IsTimeInRange time → ⊥) × PutsNone 21 status before after needed)
