-- Bytes in any form: memory that runs out after they were decoded, and those that are converted first.
use Rattle.std.proofs.Common.{◌≡◌, ◌-◌, ◌^◌, ℕ, List, length, Result, Ok, Err, inl, inr, refl, subst, ap, arith}
use Rattle.std.specs.Result.{MatchResult}
use Rattle.hdr_model.specs.Plain.{Plain}
use Rattle.byteorder.specs.Endian.{big_number}
use Rattle.hdr_convert.specs.Converted.{IsV2Of}
use Rattle.hdr_convert.specs.Forms.{IsPlain}
use Rattle.hdr_convert.specs.declared.errors.ConvertError.TheVariants as converting
use Rattle.hdrhistogram.specs.V2.{IsV2, four}
use Rattle.hdrhistogram.specs.V2Read.{IsReadAs}
use Rattle.hdrhistogram.specs.declared.serialization.errors.DeserializeError.TheVariants.{OutOfMemory}
use Rattle.hdr_c.specs.Decoding.{IsConvertStatus, IsDecoded, IsDecodeStatus, IsHistogramIn, IsV2Status}
use Rattle.hdr_c.proofs.Bounds.{has_bounds}

pub memory_status : (limit taken : ℕ) (bytes : List ℕ) (h : Plain) → IsDecoded limit bytes h taken → IsDecodeStatus limit bytes 2
memory_status limit taken bytes h (within, inl read) = inl (OutOfMemory, refl, record { defect = tt; memory = has_bounds (2 ^ 64 - 1) bytes _ read.read; form = λ _. refl })
memory_status limit taken bytes h (within, inr other) = inr (inl (other.0, inl (converting.OutOfMemory, refl, λ _. refl)))

pub in_form : (bytes copy v2 text : List ℕ) (r : Result Plain ℕ) → copy ≡ bytes → IsV2Of copy v2 → text ≡ v2
    → MatchResult r (λ h. (taken : ℕ) × IsReadAs (2 ^ 64 - 1) text h taken) (IsV2Status text)
    → MatchResult r (IsHistogramIn bytes) (IsConvertStatus bytes)
in_form bytes copy v2 text (Ok h) same of is read = (v2, subst (λ (xs : List ℕ). IsV2Of xs v2) same of, (read.0, subst (λ (xs : List ℕ). IsReadAs (2 ^ 64 - 1) xs h read.0) is read.1))
in_form bytes copy v2 text (Err status) same of is error = inr (v2, subst (λ (xs : List ℕ). IsV2Of xs v2) same of, subst (λ (xs : List ℕ). IsV2Status xs status) is error)

pub v2_is_plain : (h : Plain) (bytes : List ℕ) → IsV2 h bytes → IsPlain bytes
unfolding four
v2_is_plain h bytes is = (grind (arith, ap (λ (xs : List ℕ). length xs) is.text), ap (λ (xs : List ℕ). big_number 4 xs) is.text)
