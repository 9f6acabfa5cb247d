-- What V2 bytes decode to (the Rust crate's `Deserializer`), field by field: a field is checked
-- before the next one is read.
use Rattle.std.specs.Prelude.{◌≡◌, ◌==◌, ℕ, ◌+◌, ◌-◌, ◌*◌, ◌^◌, ◌≤◌, Bool, ◌&&◌, nat_lt, nat_le, if◌then◌else◌, min, Option, Some, None, List, length, take, drop, sum, false, Result, Ok, Err}
use Rattle.byteorder.specs.Endian.{big_number}
use Rattle.hdr_base.specs.Classes.{unit_of, digits_of, resolution_of, bins_to}
use Rattle.hdr_model.specs.Plain.{Plain}
use Rattle.hdr_model.specs.Marks.{IsTopMark, IsLowerMark}
use Rattle.hdr_model.specs.Unfinished.{Unfinished}
use Rattle.hdr_model.specs.declared.errors.CreationError.{CreationError}
use Rattle.hdr_model.specs.declared.errors.CreationError.TheVariants.{LowIsZero, LowExceedsMax, HighLessThanTwiceLow, SigFigExceedsMax, CannotRepresentSigFigBeyondLow, UsizeTypeTooSmall, OutOfMemory}
use Rattle.hdrhistogram.specs.declared.serialization.errors.DeserializeError.{DeserializeError}
use Rattle.hdrhistogram.specs.Defects.{Defect, cut, other_cookie, unsupported, bad_bounds, ◌>>=◌, unless, defect_of_error}
use Rattle.hdrhistogram.specs.PayloadRead.{counts_in}

-- the number in the first four bytes, and in the first eight, the highest byte first
unfoldable pub four_of : List ℕ → ℕ
four_of text = big_number 4 text

unfoldable pub eight_of : List ℕ → ℕ
eight_of text = big_number 8 text

-- a field of four bytes, of eight, or of `len` bytes: what it holds, and the rest
unfoldable pub four_at : List ℕ → Result (ℕ × List ℕ) Defect
four_at text = if nat_lt (length text) 4 then Err cut else Ok (four_of text, drop 4 text)

unfoldable pub eight_at : List ℕ → Result (ℕ × List ℕ) Defect
eight_at text = if nat_lt (length text) 8 then Err cut else Ok (eight_of text, drop 8 text)

unfoldable pub bytes_at : ℕ → List ℕ → Result (List ℕ × List ℕ) Defect
bytes_at len text = if nat_lt (length text) len then Err cut else Ok (take len text, drop len text)

-- a field, and then the check of its number
abbrev pub check_field : (ℕ → Option Defect) → Result (ℕ × List ℕ) Defect → Result (ℕ × List ℕ) Defect
check_field defect field = field >>= λ f. unless (defect f.0) f

-- the uncompressed form's cookie; the compressed form's is known, but not supported
unfoldable pub cookie_defect : ℕ → Option Defect
cookie_defect n = if n == 0x1c849313 then None else (if n == 0x1c849314 then Some unsupported else Some other_cookie)

-- values are not shifted
unfoldable pub offset_defect : ℕ → Option Defect
offset_defect n = if n == 0 then None else Some unsupported

-- digits are a u8
unfoldable pub sigfig_defect : ℕ → Option Defect
sigfig_defect n = if nat_lt 255 n then Some bad_bounds else None

-- the ratio is 1.0, as the bits of a float
unfoldable pub ratio_defect : ℕ → Option Defect
ratio_defect n = if n == 0x3ff0000000000000 then None else Some unsupported

-- the fields of a header that vary
pub record Header : Type 0 where
  pub payload_len : ℕ
  pub sigfig : ℕ
  pub low : ℕ
  pub high : ℕ

-- the header at the start of the bytes, and the rest
unfoldable pub header_at : List ℕ → Result (Header × List ℕ) Defect
header_at text = do
  cookie ← check_field cookie_defect (four_at text)
  payload_len ← four_at cookie.1
  offset ← check_field offset_defect (four_at payload_len.1)
  sigfig ← check_field sigfig_defect (four_at offset.1)
  low ← eight_at sigfig.1
  high ← eight_at low.1
  ratio ← check_field ratio_defect (eight_at high.1)
  Ok (record { payload_len = payload_len.0; sigfig = sigfig.0; low = low.0; high = high.0 }, ratio.1)

-- bounds and digits that a histogram can have (`new_with_bounds`)
unfoldable pub are_bounds : ℕ → ℕ → ℕ → Bool
are_bounds low high sigfig =
    nat_lt 0 low && nat_lt low (2 ^ 63) && nat_le (2 * low) high && nat_le sigfig 5 && nat_le (unit_of low + digits_of sigfig) 63

unfoldable pub bounds_defect : Header → Option Defect
bounds_defect h = if are_bounds h.low h.high h.sigfig then None else Some bad_bounds

-- the bytes start with a header whose bounds a histogram can have; only then is memory allocated
abbrev pub HasBounds : List ℕ → Type 0
HasBounds text = (found : Header × List ℕ) × (header_at text ≡ Ok found) × (bounds_defect found.0 ≡ None)

-- the defect of bounds that no histogram has; running out of memory is none
abbrev pub creation_defect : CreationError → Option Defect
creation_defect OutOfMemory = None
creation_defect LowIsZero = Some bad_bounds
creation_defect LowExceedsMax = Some bad_bounds
creation_defect HighLessThanTwiceLow = Some bad_bounds
creation_defect SigFigExceedsMax = Some bad_bounds
creation_defect CannotRepresentSigFigBeyondLow = Some bad_bounds
creation_defect UsizeTypeTooSmall = Some bad_bounds

-- the number of bins of a histogram with these bounds
abbrev pub bins_for : Header → ℕ
bins_for h = bins_to (resolution_of h.low h.sigfig) h.high

-- what the bytes hold of a histogram
pub record Contents : Type 0 where
  pub low : ℕ
  pub high : ℕ
  pub sigfig : ℕ
  pub counts : List ℕ

abbrev pub contents_of : Header → List ℕ → Contents
contents_of h counts = record { low = h.low; high = h.high; sigfig = h.sigfig; counts = counts }

-- the histogram at the start of the bytes, for counters up to the greatest, and the rest
unfoldable pub v2_at : ℕ → List ℕ → Result (Contents × List ℕ) Defect
v2_at greatest text = do
  found ← header_at text
  header ← unless (bounds_defect found.0) found.0
  payload ← bytes_at header.payload_len found.1
  counts ← counts_in (bins_for header) greatest payload.0
  Ok (contents_of header counts, payload.1)

abbrev pub histogram_contents : Plain → Contents
histogram_contents h = record { low = h.low; high = h.high; sigfig = h.sigfig; counts = h.counts }

-- the same of a histogram that is being built
abbrev pub builder_contents : Unfinished → Contents
builder_contents f = record { low = f.low; high = f.high; sigfig = f.sigfig; counts = f.counts }

-- the total is the saturating sum of the counts, and the marks are those of the nonempty classes
pub record IsRestated (h : Plain) : Type 0 where
  pub total : h.total ≡ min (sum h.counts) (2 ^ 64 - 1)
  pub top_mark : IsTopMark h.counts h.top_mark
  pub lower_mark : IsLowerMark h.counts h.lower_mark

-- a histogram with these contents: it does not grow, and its total and marks follow from its counts
pub record HasContents (c : Contents) (h : Plain) : Type 0 where
  pub contents : histogram_contents h ≡ c
  pub fixed : h.auto_resize ≡ false
  pub restated : IsRestated h

-- the first `taken` bytes decode to this histogram
pub record IsReadAs (greatest : ℕ) (text : List ℕ) (h : Plain) (taken : ℕ) : Type 0 where
  pub contents : Contents
  pub read : v2_at greatest text ≡ Ok (contents, drop taken text)
  pub within : taken ≤ length text
  pub histogram : HasContents contents h

-- the bytes decode to a histogram, with the number of bytes consumed, or to an error that names
-- their defect
abbrev pub ReadsV2 : ℕ → List ℕ → Result (Plain × ℕ) DeserializeError → Type 0
ReadsV2 greatest text (Ok found) = IsReadAs greatest text found.0 found.1
ReadsV2 greatest text (Err e) = (f : Defect) × (defect_of_error e ≡ Some f) × (v2_at greatest text ≡ Err f)

-- the second histogram is what the first one's bytes decode to
abbrev pub IsReadBack : Plain → Plain → Type 0
IsReadBack h k = HasContents (histogram_contents h) k
