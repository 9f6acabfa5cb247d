-- V2 bytes in the caller's memory.
use Rattle.std.specs.Prelude.{◌≡◌, ◌⊎◌, ◌<◌, ℕ, List, Option, Some, None, length}
use Rattle.hdr_model.specs.Plain.{Plain}
use Rattle.hdrhistogram.specs.Streams.{WritesFront}
use Rattle.hdrhistogram.specs.SerializeErrors.{IsToBytesError}
use Rattle.hdrhistogram.specs.V2.{IsV2}
use Rattle.hdrhistogram.specs.declared.serialization.errors.V2SerializeError.{V2SerializeError}
use Rattle.hdr_convert.specs.Converted.{IsCompressedOf}
use Rattle.hdr_c.specs.Decoding.{IsDecoded, IsDecodeStatus}
use Rattle.hdr_c.specs.Status.{IsEncodeStatus}

-- bytes of which P holds are at the start of the buffer now, or it is too short; `needed` is their number
abbrev pub Puts : (List ℕ → Type 0) → ℕ → List ℕ → List ℕ → ℕ → Type 0
Puts P status old new needed =
    ((status ≡ 0) × WritesFront P old new needed)
    ⊎ ((status ≡ 11) × (bytes : List ℕ) × P bytes × (needed ≡ length bytes) × (length old < needed) × (new ≡ old))

-- the V2 bytes are at the start of the buffer now, or encoding fails and it is unchanged
abbrev pub Encodes : ℕ → Option Plain → List ℕ → List ℕ → ℕ → Type 0
Encodes status None old new needed = (status ≡ 1) × (needed ≡ 0) × (new ≡ old)
Encodes status (Some h) old new needed =
    Puts (IsV2 h) status old new needed
    ⊎ ((e : V2SerializeError) × IsEncodeStatus e status × IsToBytesError h e × (needed ≡ 0) × (new ≡ old))

-- compressed bytes whose zlib stream has the V2 bytes of the histogram
abbrev pub IsCompressedV2 : Plain → List ℕ → Type 0
IsCompressedV2 h bytes = (v2 : List ℕ) × IsV2 h v2 × IsCompressedOf v2 bytes

-- the status of an error of encoding, or 2: memory ran out
abbrev pub IsCompressedStatus : Plain → ℕ → Type 0
IsCompressedStatus h status = ((e : V2SerializeError) × IsEncodeStatus e status × IsToBytesError h e) ⊎ (status ≡ 2)

-- the compressed V2 bytes are at the start of the buffer now, or encoding fails and it is unchanged
abbrev pub EncodesCompressed : ℕ → Option Plain → List ℕ → List ℕ → ℕ → Type 0
EncodesCompressed status None old new needed = (status ≡ 1) × (needed ≡ 0) × (new ≡ old)
EncodesCompressed status (Some h) old new needed =
    Puts (IsCompressedV2 h) status old new needed ⊎ (IsCompressedStatus h status × (needed ≡ 0) × (new ≡ old))

-- the handle has the histogram of the first `taken` bytes now, or nothing changes
abbrev pub Decodes : ℕ → ℕ → List ℕ → ℕ → Option Plain → Option Plain → Type 0
Decodes status limit bytes taken old new =
    ((status ≡ 0) × ((h : Plain) × (new ≡ Some h) × IsDecoded limit bytes h taken))
    ⊎ (IsDecodeStatus limit bytes status × (taken ≡ 0) × (new ≡ old))
