-- Histograms of bytes in any form: of versions 0 to 2, compressed or not.
use Rattle.std.specs.Prelude.{◌≡◌, ◌⊎◌, ◌-◌, ◌^◌, ◌<◌, ◌≤◌, ℕ, List, Some, None, Err, length, drop, slice_index}
use Rattle.byteorder.specs.Endian.{big_number}
use Rattle.hdr_base.specs.Classes.{bin_of, resolution_of}
use Rattle.hdr_model.specs.Plain.{Plain}
use Rattle.hdr_log.specs.Texts.{base64_bytes}
use Rattle.hdr_convert.specs.Converted.{IsReadable, IsV2Of}
use Rattle.hdr_convert.specs.declared.errors.ConvertError.{ConvertError}
use Rattle.hdr_convert.specs.declared.errors.ConvertError.TheVariants as converting
use Rattle.hdrhistogram.specs.Defects.{defect_of_error, FailsBy, RunsOutOnly, other_cookie, unsupported}
use Rattle.hdrhistogram.specs.V2Read.{HasBounds, IsReadAs, v2_at}
use Rattle.hdrhistogram.specs.declared.serialization.errors.DeserializeError.{DeserializeError}
use Rattle.hdrhistogram.specs.declared.serialization.errors.DeserializeError.TheVariants.{OutOfMemory}
use Rattle.hdr_c.specs.Status.{convert_status, decode_status}

-- bytes do not decode as V2 bytes, since they start as no such bytes or use another feature
abbrev pub IsNoV2 : List ℕ → Type 0
IsNoV2 bytes = (v2_at (2 ^ 64 - 1) bytes ≡ Err other_cookie) ⊎ (v2_at (2 ^ 64 - 1) bytes ≡ Err unsupported)

-- bytes of any form are those of a histogram: the V2 bytes of the same decode to it
abbrev pub IsHistogramIn : List ℕ → Plain → Type 0
IsHistogramIn bytes h = (v2 : List ℕ) × IsV2Of bytes v2 × ((taken : ℕ) × IsReadAs (2 ^ 64 - 1) v2 h taken)

-- the status of an error of V2 bytes that do not decode
abbrev pub IsV2Status : List ℕ → ℕ → Type 0
IsV2Status v2 status = (e : DeserializeError) × (status ≡ decode_status e) × FailsBy (defect_of_error e) (v2_at (2 ^ 64 - 1) v2)

-- the status of an error of bytes in another form: they are not converted, which they are if they can be read, unless memory runs out,
-- or the V2 bytes of the same do not decode
abbrev pub IsConvertStatus : List ℕ → ℕ → Type 0
IsConvertStatus bytes status =
    ((e : ConvertError) × (status ≡ convert_status e) × (IsReadable bytes → e ≡ converting.OutOfMemory))
    ⊎ ((v2 : List ℕ) × IsV2Of bytes v2 × IsV2Status v2 status)

-- the first `taken` bytes decode to a histogram of at most `limit` bins, or all of them in another form
abbrev pub IsDecoded : ℕ → List ℕ → Plain → ℕ → Type 0
IsDecoded limit bytes h taken =
    (length h.counts ≤ limit)
    × (IsReadAs (2 ^ 64 - 1) bytes h taken ⊎ (IsNoV2 bytes × IsHistogramIn bytes h × (taken ≡ length bytes)))

-- the bounds in a header of V2 bytes need more bins than the limit: the highest value has one past it
unfoldable pub HeaderExceeds : ℕ → List ℕ → Type 0
HeaderExceeds limit bytes =
    limit ≤ bin_of (resolution_of (big_number 8 (drop 16 bytes)) (slice_index bytes 15)) (big_number 8 (drop 24 bytes))

-- the bytes are those of a histogram with more bins than the limit
abbrev pub HasMoreBins : ℕ → List ℕ → Type 0
HasMoreBins limit bytes =
    (h : Plain) × (limit < length h.counts)
    × (((taken : ℕ) × IsReadAs (2 ^ 64 - 1) bytes h taken) ⊎ (IsNoV2 bytes × IsHistogramIn bytes h))

-- the error of V2 bytes. Bytes that may have another form are read so too, unless memory runs out
pub record IsV2Error (bytes : List ℕ) (e : DeserializeError) : Type 0 where
  pub defect : FailsBy (defect_of_error e) (v2_at (2 ^ 64 - 1) bytes)
  pub memory : RunsOutOnly (HasBounds bytes) e
  pub form : IsNoV2 bytes → e ≡ OutOfMemory

-- the status of an error of V2 bytes, or of bytes in another form, or 27: there are more bins than the limit
abbrev pub IsDecodeStatus : ℕ → List ℕ → ℕ → Type 0
IsDecodeStatus limit bytes status =
    ((e : DeserializeError) × (status ≡ decode_status e) × IsV2Error bytes e)
    ⊎ (IsNoV2 bytes × IsConvertStatus bytes status)
    ⊎ ((status ≡ 27) × (HeaderExceeds limit bytes ⊎ HasMoreBins limit bytes))

-- a field is the Base64 of a histogram's bytes in any form, whatever follows V2 bytes
abbrev pub IsFieldHistogram : ℕ → List ℕ → Plain → Type 0
IsFieldHistogram limit field h = (bytes : List ℕ) × (base64_bytes field ≡ Some bytes) × ((taken : ℕ) × IsDecoded limit bytes h taken)

-- the status of a field that is not Base64, or whose bytes are not decoded, or 2: memory ran out
abbrev pub IsFieldStatus : ℕ → List ℕ → ℕ → Type 0
IsFieldStatus limit field status =
    ((status ≡ 25) × (base64_bytes field ≡ None)) ⊎ (status ≡ 2)
    ⊎ ((bytes : List ℕ) × (base64_bytes field ≡ Some bytes) × IsDecodeStatus limit bytes status)
