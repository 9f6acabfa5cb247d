-- Histograms of versions 0 and 1, as Java's HdrHistogram wrote them before V2: a header, and then a counter of one width for each
-- bin, from the first one on.
use Rattle.std.specs.Prelude.{ℕ, List, ◌≡◌, ◌+◌, ◌*◌, ◌≤◌, ◌⊎◌, if◌then◌else◌, nat_le, length, take, drop, slice_index, EachIndex}
use Rattle.byteorder.specs.Endian.{big_number}
use Rattle.hdr_model.specs.Plain.{Plain}
use Rattle.hdrhistogram.specs.V2.{IsV2}
use Rattle.hdr_convert.specs.declared.old.OldHistogram.{OldHistogram}

-- The number in `width` bytes from `place` on, the highest byte first.
unfoldable pub number_at : ℕ → ℕ → List ℕ → ℕ
number_at width place bytes = big_number width (drop place bytes)

-- A counter has 2, 4 or 8 bytes.
unfoldable pub IsWidth : ℕ → Type 0
IsWidth width = (width ≡ 2) ⊎ (width ≡ 4) ⊎ (width ≡ 8)

-- The bytes start as those of a version.
unfoldable pub StartsAs : ℕ → ℕ → List ℕ → Type 0
StartsAs version width bytes =
    (4 ≤ length bytes) × IsWidth width × (number_at 4 0 bytes ≡ version + 16 * width)

-- The bytes start as those of version 0 or 1.
abbrev pub IsOld : List ℕ → Type 0
IsOld bytes = (width : ℕ) × (StartsAs 0x1c849308 width bytes ⊎ StartsAs 0x1c849301 width bytes)

-- The counter of a bin, or 0 after the last one.
unfoldable pub counter_at : ℕ → List ℕ → ℕ → ℕ
counter_at width bytes bin =
    if nat_le (width * bin + width) (length bytes) then number_at width (width * bin) bytes else 0

-- The numbers of bins are those of the counters, and each counter past the bins is 0.
unfoldable pub AreCounters : ℕ → List ℕ → List ℕ → Type 0
AreCounters width bytes counts =
    EachIndex counts (λ bin. slice_index counts bin ≡ counter_at width bytes bin)
    × ((bin : ℕ) → length counts ≤ bin → counter_at width bytes bin ≡ 0)

-- The bytes are those of version 0, with the bounds and counts of the histogram: a cookie with the width of a counter, the digits,
-- the bounds, and a total.
abbrev pub IsVersion0 : List ℕ → Plain → Type 0
IsVersion0 bytes h =
    (width : ℕ) × StartsAs 0x1c849308 width bytes × (number_at 4 4 bytes ≡ h.sigfig)
    × (number_at 8 8 bytes ≡ h.low) × (number_at 8 16 bytes ≡ h.high) × AreCounters width (drop 32 bytes) h.counts

-- The bytes are those of version 1: a cookie with the width of a counter, the length of the counters, an offset of 0, the digits,
-- the bounds, and the ratio 1.0 as the bits of a float.
abbrev pub IsVersion1 : List ℕ → Plain → Type 0
IsVersion1 bytes h =
    (width : ℕ) × StartsAs 0x1c849301 width bytes × (number_at 4 8 bytes ≡ 0) × (number_at 4 12 bytes ≡ h.sigfig)
    × (number_at 8 16 bytes ≡ h.low) × (number_at 8 24 bytes ≡ h.high) × (number_at 8 32 bytes ≡ 0x3ff0000000000000)
    × AreCounters width (take (number_at 4 4 bytes) (drop 40 bytes)) h.counts

-- The bytes are the V2 bytes of a histogram that has the bounds, the digits and the counts of one of version 0 or 1.
abbrev pub IsV2OfOld : List ℕ → List ℕ → Type 0
IsV2OfOld bytes v2 = (h : Plain) × IsV2 h v2 × (IsVersion0 bytes h ⊎ IsVersion1 bytes h)

-- A histogram has the bounds, the digits and the counts that were read.
abbrev pub Holds : OldHistogram → Plain → Type 0
Holds old h =
    (old.sigfig ≡ h.sigfig) × (old.low ≡ h.low) × (old.high ≡ h.high) × AreCounters old.width old.counters.now h.counts
