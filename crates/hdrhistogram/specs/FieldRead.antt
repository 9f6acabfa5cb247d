-- What the field of an interval decodes to: it is Base64 of V2 bytes.
use Rattle.std.specs.Prelude.{◌≡◌, ℕ, List, Some, None, Err}
use Rattle.hdr_model.specs.Plain.{Plain}
use Rattle.hdr_log.specs.Texts.{base64_bytes}
use Rattle.hdrhistogram.specs.V2Read.{IsReadAs, ReadsV2}
use Rattle.hdrhistogram.specs.declared.serialization.errors.FieldDecodeError.{FieldDecodeError}
use Rattle.hdrhistogram.specs.declared.serialization.errors.FieldDecodeError.TheVariants.{NotBase64, Decode, OutOfMemory}

-- a field holds a histogram, for counters up to the greatest, whatever follows it
abbrev pub IsHeldIn : ℕ → List ℕ → Plain → Type 0
IsHeldIn greatest field h = (bytes : List ℕ) × (base64_bytes field ≡ Some bytes) × (taken : ℕ) × IsReadAs greatest bytes h taken

-- the field is not valid Base64, or its bytes have a defect, or memory ran out
abbrev pub IsFieldDecodeError : ℕ → List ℕ → FieldDecodeError → Type 0
IsFieldDecodeError greatest field NotBase64 = base64_bytes field ≡ None
IsFieldDecodeError greatest field (Decode e) = (bytes : List ℕ) × (base64_bytes field ≡ Some bytes) × ReadsV2 greatest bytes (Err e)
IsFieldDecodeError greatest field OutOfMemory = Unit {0}
