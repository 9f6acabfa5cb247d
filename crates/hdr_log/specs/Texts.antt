-- The texts that an interval log is written by.
use Rattle.std.specs.Prelude.{◌≡◌, ℕ, ◌+◌, ◌*◌, ◌/◌, ◌%◌, ◌<◌, ◌^◌, List, [], ◌∷◌, ◌++◌, Option, Some, None, codes, true}
use Rattle.std.specs.List.{flat_map, slice_index}
use Rattle.std.specs.Fmt.{decimal}
use Rattle.std.specs.Result.{result_ok}
use Rattle.base64.specs.Engines.{standard}
use Rattle.base64.specs.GeneralPurpose.{encode_of, decode_of}
use Rattle.hdr_log.specs.Grammar.{is_tag}

abbrev pub three_digits : ℕ → List ℕ
three_digits n = (48 + n / 100) ∷ (48 + n / 10 % 10) ∷ (48 + n % 10) ∷ []

-- a number of thousandths: its integer part, a point, and three digits
unfoldable pub thousandths_text : ℕ → List ℕ
thousandths_text t = decimal (t / 1000) ++ 46 ∷ three_digits (t % 1000)

-- nanoseconds to the nearest thousandth of a second, halves up
abbrev pub to_thousandths : ℕ → ℕ
to_thousandths nanos = (nanos + 500_000) / 1_000_000

-- the seconds that are printed of a time fit 64 bits
abbrev pub IsTimeInRange : ℕ → Type 0
IsTimeInRange nanos = to_thousandths nanos / 1000 < 2 ^ 64

-- a greatest value in units of the divisor, to the nearest thousandth, halves up
abbrev pub max_thousandths : ℕ → ℕ → ℕ
max_thousandths max divisor = (2000 * max + divisor) / (2 * divisor)

-- a line's text with its LF
abbrev pub with_line_feed : List ℕ → List ℕ
with_line_feed line = line ++ 10 ∷ []

-- the text of lines
abbrev pub lines_text : List (List ℕ) → List ℕ
lines_text lines = flat_map with_line_feed lines

-- each part of a comment is on a line of its own, also an empty one
abbrev pub comment_line : List ℕ → List ℕ
comment_line part = 35 ∷ part

abbrev pub start_line : ℕ → List ℕ
start_line t = codes "#[StartTime: " ++ (thousandths_text t ++ codes " (seconds since epoch)]")

abbrev pub base_line : ℕ → List ℕ
base_line t = codes "#[BaseTime: " ++ (thousandths_text t ++ codes " (seconds since epoch)]")

abbrev pub divisor_line : ℕ → List ℕ
divisor_line d = codes "#[MaxValueDivisor: " ++ (thousandths_text (1000 * d) ++ codes "]")

abbrev pub tag_front : Option (List ℕ) → List ℕ
tag_front None = []
tag_front (Some tag) = codes "Tag=" ++ tag ++ 44 ∷ []

-- an interval's line; times and the greatest value are in thousandths
abbrev pub interval_line : Option (List ℕ) → ℕ → ℕ → ℕ → List ℕ → List ℕ
interval_line tag start duration max field =
    tag_front tag ++ (thousandths_text start ++ 44 ∷ (thousandths_text duration ++ 44 ∷ (thousandths_text max ++ 44 ∷ field)))

-- what is allowed as a tag
abbrev pub AreTags : Option (List ℕ) → Type 0
AreTags None = Unit {0}
AreTags (Some tag) = is_tag tag ≡ true

-- each number is a byte
abbrev pub AreBytes : List ℕ → Type 0
AreBytes bytes = (i : ℕ) → slice_index bytes i < 256

-- bytes in Base64, of the standard alphabet with padding (RFC 4648, section 4)
unfoldable pub base64_of : List ℕ → List ℕ
base64_of bytes = encode_of standard bytes

-- the bytes of a field in Base64, if it is Base64
unfoldable pub base64_bytes : List ℕ → Option (List ℕ)
base64_bytes field = result_ok (decode_of standard field)
