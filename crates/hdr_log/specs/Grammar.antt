-- The lines of an interval log, and the entry of each (the Rust crate's module `interval_log`, and the log of
-- HdrHistogram's tools). A line is a list of bytes without its LF; times are in nanoseconds.
use Rattle.std.specs.Prelude.{ℕ, ◌+◌, ◌-◌, ◌*◌, ◌^◌, ◌<◌, Bool, true, false, not, ◌&&◌, ◌||◌, ◌==◌, if◌then◌else◌, List, [], ◌∷◌, length, take, Option, Some, None, Result, Ok, Err, IfErr, codes}
use Rattle.std.specs.Option.{option_map, option_or, is_some}
use Rattle.std.specs.List.{list_all}
use Rattle.std.specs.Str.{is_utf8}
use Rattle.std.specs.Char.{is_ascii_digit}
use Rattle.std.specs.Str.Parse.{digits_value, without_leading_plus}
use Rattle.hdr_log.specs.Parts.{◌>>=◌, parts, split_at_byte, is_digits, number_of}

-- the digits after the point as nanoseconds: the first nine are read, and zeros follow if there are fewer
unfoldable pub nanos_of : List ℕ → Option ℕ
nanos_of text = if is_digits text then Some (digits_value 10 (take 9 text) * 10 ^ (9 - length (take 9 text))) else None

-- a time in seconds: a plus or none, a number below 2 ^ 64, a point, and digits
unfoldable pub time_of : List ℕ → Option ℕ
time_of text = do
  sides ← split_at_byte 46 (without_leading_plus text)
  seconds ← number_of sides.0
  nanos ← nanos_of sides.1
  Some (seconds * 1_000_000_000 + nanos)

-- a time that ends at the first byte b, and what follows that
unfoldable pub time_before : ℕ → List ℕ → Option (ℕ × List ℕ)
time_before b text = do
  sides ← split_at_byte b text
  time ← time_of sides.0
  Some (time, sides.1)

-- what follows a prefix
abbrev pub after_front : List ℕ → List ℕ → Option (List ℕ)
after_front [] text = Some text
after_front (c ∷ front) [] = None
after_front (c ∷ front) (x ∷ text) = if c == x then after_front front text else None

-- a byte of a tag is not a comma, CR, LF or space
abbrev pub is_tag_byte : ℕ → Bool
is_tag_byte b = not (b == 44 || b == 13 || b == 10 || b == 32)

-- the text of a tag, which may be empty
abbrev pub is_tag : List ℕ → Bool
is_tag text = is_utf8 text && list_all is_tag_byte text

-- a decimal, by its sides if it has a point: one digit or more, and at most one point before, among or after them
abbrev pub digits_around : Option (List ℕ × List ℕ) → List ℕ → Bool
digits_around None text = is_digits text
digits_around (Some p) text = list_all is_ascii_digit p.0 && list_all is_ascii_digit p.1 && not (length p.0 == 0 && length p.1 == 0)

abbrev pub is_decimal : List ℕ → Bool
is_decimal text = digits_around (split_at_byte 46 text) text

-- a text without the CRs at its end
abbrev pub without_crs : List ℕ → List ℕ
without_crs [] = []
without_crs (x ∷ text) = if x == 13 && length (without_crs text) == 0 then [] else x ∷ without_crs text

-- the parts of an interval's line: its tag if it has one, its times, and the texts of its greatest value and of its
-- histogram
pub record Interval : Type 0 where
  pub tag : Option (List ℕ)
  pub start : ℕ
  pub duration : ℕ
  pub max : List ℕ
  pub field : List ℕ

-- the entry of a line: the time of a header, or an interval
pub data Entry : Type 0 where
  Start : ℕ → Entry
  Base : ℕ → Entry
  Span : Interval → Entry

-- a text of which the test holds
abbrev pub only_if : Bool → List ℕ → Option (List ℕ)
only_if b text = if b then Some text else None

-- the tag of an interval, from what follows `Tag=`, and what follows the tag
abbrev pub tag_of : Option (List ℕ) → List ℕ → Option (Option (List ℕ) × List ℕ)
tag_of None line = Some (None, line)
tag_of (Some rest) line = do
  sides ← split_at_byte 44 rest
  tag ← only_if (is_tag sides.0) sides.0
  Some (Some tag, sides.1)

-- `Tag=` tag `,` or nothing, then start `,` duration `,` max `,` field
unfoldable pub interval_of : List ℕ → Option Interval
interval_of line = do
  tag ← tag_of (after_front (codes "Tag=") line) line
  start ← time_before 44 tag.1
  duration ← time_before 44 start.1
  max ← split_at_byte 44 duration.1
  number ← only_if (is_decimal max.0) max.0
  field ← only_if (is_utf8 (without_crs max.1)) (without_crs max.1)
  Some (record { tag = tag.0; start = start.0; duration = duration.0; max = number; field = field })

-- the time of a header of this name: a space and any bytes follow it
unfoldable pub header_of : List ℕ → List ℕ → Option ℕ
header_of name line = do
  rest ← after_front name line
  time ← time_before 32 rest
  Some time.0

-- the entry of a line: the first of these that fits
unfoldable pub entry_of : List ℕ → Option Entry
entry_of line =
    option_or (option_map Start (header_of (codes "#[StartTime: ") line))
    (option_or (option_map Base (header_of (codes "#[BaseTime: ") line))
    (option_map Span (interval_of line)))

-- a line without an entry: a comment, or the legend of the Java tool's columns
unfoldable pub is_skipped : List ℕ → Bool
is_skipped line = is_some (after_front (codes "#") line) || is_some (after_front (codes "\"StartTimestamp\"") line)

-- the line at this offset has an entry, or is skipped, or is invalid and ends the reading with its offset
abbrev pub and_then : Option Entry → Bool → ℕ → List (Result Entry ℕ) → List (Result Entry ℕ)
and_then (Some entry) skipped at rest = Ok entry ∷ rest
and_then None true at rest = rest
and_then None false at rest = Err at ∷ []

-- what is read from this offset on, of the parts between LFs. The last part has no LF, so it is invalid unless it is empty
unfoldable pub readings : ℕ → List (List ℕ) → List (Result Entry ℕ)
readings at [] = []
readings at ([] ∷ []) = []
readings at ((x ∷ line) ∷ []) = Err at ∷ []
readings at (line ∷ next ∷ lines) = and_then (entry_of line) (is_skipped line) at (readings (at + length line + 1) (next ∷ lines))

-- what is read of a text, in order
abbrev pub reading : List ℕ → List (Result Entry ℕ)
reading text = readings 0 (parts 10 text)

-- the offset of an invalid line is less than the number of bytes
abbrev pub LiesIn : ℕ → Result Entry ℕ → Type 0
LiesIn bytes item = IfErr item (λ at. at < bytes)
