-- What a payload decodes to (the Rust crate's `deser_v2`, its two loops): varints need not be
-- canonical, runs may be split, and empty bins may follow the last bin.
use Rattle.std.specs.Prelude.{slice_set, ◌≡◌, ℕ, zero, suc, ◌+◌, ◌^◌, ◌≤◌, ◌++◌, List, [], ◌∷◌, length, nat_lt, nat_le, ◌&&◌, take, drop, if◌then◌else◌, ℤ, pos, negsuc, flat_map, map, replicate, Option, Some, None, Result, Ok, Err}
use Rattle.std.specs.List.{AllByRecursion}
use Rattle.hdrhistogram.specs.Varint.{IsSpelling, Spells, number_of_spelling}
use Rattle.hdrhistogram.specs.ZigZag.{from_zig_zag}
use Rattle.hdrhistogram.specs.Defects.{Defect, cut, too_great, past_bins, too_far}

-- bytes split into complete varints, and an incomplete rest
pub record Parted : Type 0 where
  pub texts : List (List ℕ)
  pub rest : List ℕ

-- a byte that ends a varint, and then these
abbrev pub last_byte : ℕ → Parted → Parted
last_byte b p = record { texts = (b ∷ []) ∷ p.texts; rest = p.rest }

-- a byte before the first varint, or before the rest if there is none
abbrev pub put_before : ℕ → List (List ℕ) → List ℕ → Parted
put_before b [] rest = record { texts = []; rest = b ∷ rest }
put_before b (text ∷ texts) rest = record { texts = (b ∷ text) ∷ texts; rest = rest }

-- The bytes are split after each that ends a varint: a byte below 128 does, and the ninth of a
-- varint. `left` more bytes of the current varint may come before its ninth.
unfoldable pub split_spellings : ℕ → List ℕ → Parted
split_spellings left [] = record { texts = []; rest = [] }
split_spellings zero (b ∷ bs) = last_byte b (split_spellings 8 bs)
split_spellings (suc left) (b ∷ bs) =
    if nat_lt b 128 then last_byte b (split_spellings 8 bs) else put_before b (split_spellings left bs).texts (split_spellings left bs).rest

-- the numbers that varints encode, by zig-zag
abbrev pub numbers : List (List ℕ) → List ℤ
numbers texts = map (λ text. from_zig_zag (number_of_spelling 8 text)) texts

-- the bins that a number stands for: -z for z empty ones, another for one bin with that count
abbrev pub bins_of_number : ℤ → List ℕ
bins_of_number (pos n) = n ∷ []
bins_of_number (negsuc n) = replicate (suc n) 0

-- the number of these bins
abbrev pub move : ℤ → ℕ
move (pos n) = 1
move (negsuc n) = suc n

-- the index of a bin is a u64
abbrev pub place_defect : ℕ → Option Defect
place_defect place = if nat_le (2 ^ 64) place then Some too_far else None

-- the defect of a number at a bin, if there are `bins` bins and a count is at most `greatest`
abbrev pub defect_at : ℕ → ℕ → ℕ → ℤ → Option Defect
defect_at bins greatest place (negsuc n) = place_defect (place + suc n)
defect_at bins greatest place (pos n) =
    if nat_lt greatest n then Some too_great
    else (if nat_lt 0 n && nat_le bins place then Some past_bins else place_defect (place + 1))

abbrev pub or_else : Option Defect → Option Defect → Option Defect
or_else (Some f) later = Some f
or_else None later = later

-- the defect of the first number that has one; the first is at the bin `place`, and each further
-- one after the bins of those before it
unfoldable pub first_defect : ℕ → ℕ → ℕ → List ℤ → Option Defect
first_defect bins greatest place [] = None
first_defect bins greatest place (n ∷ ns) = or_else (defect_at bins greatest place n) (first_defect bins greatest (place + move n) ns)

-- the counts as those of `bins` bins: further ones are left out, and missing ones are empty
unfoldable pub fit_bins : ℕ → List ℕ → List ℕ
fit_bins zero counts = []
fit_bins (suc bins) [] = 0 ∷ fit_bins bins []
fit_bins (suc bins) (n ∷ counts) = n ∷ fit_bins bins counts

-- the counts after a number at the bin `place`, which sets it if the number is a nonzero count
abbrev pub with_count : List ℕ → ℕ → ℤ → List ℕ
with_count counts place (pos zero) = counts
with_count counts place (pos (suc n)) = slice_set counts place (suc n)
with_count counts place (negsuc n) = counts

-- the first `taken` bytes encode a number of `moved` bins, which has no defect and was applied at
-- `place`
pub record IsNumberPut (greatest place : ℕ) (bytes old new : List ℕ) (taken moved : ℕ) : Type 0 where
  pub encoded : ℕ
  pub within : taken ≤ length bytes
  pub spells : Spells (take taken bytes) encoded
  pub fine : defect_at (length old) greatest place (from_zig_zag encoded) ≡ None
  pub bins : move (from_zig_zag encoded) ≡ moved
  pub put : new ≡ with_count old place (from_zig_zag encoded)

-- two counts of two bytes each were set, one after the other
pub record IsPairPut (greatest place : ℕ) (bytes old new : List ℕ) : Type 0 where
  pub between : List ℕ
  pub first : IsNumberPut greatest place bytes old between 2 1
  pub second : IsNumberPut greatest (place + 1) (drop 2 bytes) between new 2 1

-- counts, unless there was a defect before or the bytes end inside a varint
abbrev pub counts_or_defect : Option Defect → List ℕ → List ℕ → Result (List ℕ) Defect
counts_or_defect (Some f) rest counts = Err f
counts_or_defect None [] counts = Ok counts
counts_or_defect None (b ∷ rest) counts = Err cut

-- the counts that a payload decodes to, for `bins` bins and counts up to `greatest`, or its first
-- defect
unfoldable pub counts_in : ℕ → ℕ → List ℕ → Result (List ℕ) Defect
counts_in bins greatest payload =
    let p = split_spellings 8 payload in
    counts_or_defect (first_defect bins greatest 0 (numbers p.texts)) p.rest (fit_bins bins (flat_map bins_of_number (numbers p.texts)))

-- an incomplete varint: fewer than nine bytes, each of which has another after it
pub record IsCut (rest : List ℕ) : Type 0 where
  pub short : length rest ≤ 8
  pub high : AllByRecursion (λ b. 128 ≤ b) rest

-- the payload is varints, one after the other, and an incomplete rest
pub record AreSpellings (payload : List ℕ) (texts : List (List ℕ)) (rest : List ℕ) : Type 0 where
  pub whole : payload ≡ flat_map (λ text. text) texts ++ rest
  pub each : AllByRecursion (IsSpelling 8) texts
  pub cut : IsCut rest
