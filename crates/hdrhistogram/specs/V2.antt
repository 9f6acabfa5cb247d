-- The V2 bytes of a histogram (the Rust crate's `V2Serializer`, HdrHistogram's V2 encoding without
-- compression): a header of 40 bytes, then the payload of its counts.
use Rattle.std.specs.Prelude.{◌≡◌, ℕ, ◌+◌, ◌^◌, ◌≤◌, ◌++◌, List, length, take, unwrap_or, Any}
use Rattle.byteorder.specs.Endian.{big_bytes}
use Rattle.hdr_model.specs.Plain.{Plain}
use Rattle.hdrhistogram.specs.Payload.{IsPayload}

-- the number of bins that are written: those up to the top mark's, or 1 without a mark
-- (`encode_counts`: up to the bin of `max`)
abbrev pub written_bins : Plain → ℕ
written_bins h = unwrap_or h.top_mark 0 + 1

-- the counts that are written
abbrev pub written_counts : Plain → List ℕ
written_counts h = take (written_bins h) h.counts

-- a number in four bytes, and in eight, the highest byte first
unfoldable pub four : ℕ → List ℕ
four n = big_bytes 4 n

unfoldable pub eight : ℕ → List ℕ
eight n = big_bytes 8 n

-- The header: the cookie of the uncompressed form, the payload's length in bytes, and the
-- normalizing offset 0. Then the number of significant digits, the lowest and the highest value,
-- and the ratio 1.0 as the bits of a float.
abbrev pub header : Plain → ℕ → List ℕ
header h payload_len =
    four 0x1c849313 ++ four payload_len ++ four 0 ++ four h.sigfig
    ++ eight h.low ++ eight h.high ++ eight 0x3ff0000000000000

-- the bytes are the V2 bytes of the histogram
pub record IsV2 (h : Plain) (bytes : List ℕ) : Type 0 where
  pub payload : List ℕ
  pub counts : IsPayload (written_counts h) payload
  pub text : bytes ≡ header h (length payload) ++ payload

-- some count is above 2 ^ 63 - 1, the greatest that zig-zag encodes
abbrev pub HasTooGreatCount : Plain → Type 0
HasTooGreatCount h = Any (λ n. 2 ^ 63 ≤ n) h.counts

-- two histograms agree in what V2 bytes hold: the bounds, the digits, the counts and the class of
-- the top mark; no mark counts as the first class
pub record IsWrittenAlike (h k : Plain) : Type 0 where
  pub low : h.low ≡ k.low
  pub high : h.high ≡ k.high
  pub sigfig : h.sigfig ≡ k.sigfig
  pub counts : h.counts ≡ k.counts
  pub top_class : unwrap_or h.top_mark 0 ≡ unwrap_or k.top_mark 0
