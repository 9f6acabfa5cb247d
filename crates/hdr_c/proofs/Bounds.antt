-- Bytes that decode to a histogram have bounds that a histogram can have.
use Rattle.std.proofs.Common.{◌≡◌, ℕ, List, Option, Some, None, Result, Ok, Err, refl, arith}
use Rattle.hdrhistogram.specs.Defects.{Defect, ◌>>=◌, unless}
use Rattle.hdrhistogram.specs.V2Read.{Header, Contents, HasBounds, header_at, bounds_defect, v2_at, bytes_at, contents_of, bins_for}
use Rattle.hdrhistogram.specs.PayloadRead.{counts_in}

no_defect : (d : Option Defect) (h : Header) (after : Header → Result (Contents × List ℕ) Defect) (found : Contents × List ℕ) → (unless d h >>= after) ≡ Ok found → d ≡ None
no_defect None h after found e = refl
no_defect (Some f) h after found e = grind arith

has_header : (text : List ℕ) (r : Result (Header × List ℕ) Defect) (after : Header × List ℕ → Header → Result (Contents × List ℕ) Defect) (found : Contents × List ℕ) → header_at text ≡ r → (r >>= λ h. unless (bounds_defect h.0) h.0 >>= after h) ≡ Ok found → HasBounds text
has_header text (Ok h) after found is e = (h, is, no_defect (bounds_defect h.0) h.0 (after h) found e)
has_header text (Err f) after found is e = grind arith

pub has_bounds : (greatest : ℕ) (text : List ℕ) (found : Contents × List ℕ) → v2_at greatest text ≡ Ok found → HasBounds text
unfolding v2_at
has_bounds greatest text found e = has_header text (header_at text) (λ h header. bytes_at header.payload_len h.1 >>= λ payload. counts_in (bins_for header) greatest payload.0 >>= λ counts. Ok (contents_of header counts, payload.1)) found refl e
