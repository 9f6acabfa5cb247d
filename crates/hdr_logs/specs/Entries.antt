-- The entries of an interval log that is read line by line.
use Rattle.std.specs.Prelude.{◌≡◌, ◌⊎◌, ◌^◌, ◌-◌, ◌<◌, ℕ, Bool, false, if◌then◌else◌, List, [], ◌∷◌, length, nat_eq, not, ◌&&◌, Option, Some, None, Result, Ok}
use Rattle.std.specs.List.{list_all, ends_with}
use Rattle.std.specs.Option.{option_map}
use Rattle.std.specs.Char.{is_ascii_whitespace}
use Rattle.hdr_model.specs.Plain.{Plain}
use Rattle.hdr_log.specs.Grammar.{Entry, Interval, Span, entry_of, reading}
use Rattle.hdr_log.specs.Timed.{TimedInterval, base_after, interval_after}
use Rattle.hdrhistogram.specs.FieldRead.{IsHeldIn}
use Rattle.hdr_input.specs.Lines.{without_mark}
use Rattle.hdr_logs.specs.Fields.{IsPlainField, is_other_form}

abbrev pub first_of : List (Result Entry ℕ) → Option (Result Entry ℕ)
first_of [] = None
first_of (item ∷ items) = Some item

-- the entry of a line with its LF: none if it is blank
unfoldable pub entry_of_line : List ℕ → Option (Result Entry ℕ)
entry_of_line line = if list_all is_ascii_whitespace line then None else first_of (reading line)

-- a field holds a histogram, plain or of another form
abbrev pub HoldsHistogram : List ℕ → Type 0
HoldsHistogram field = (plain : List ℕ) × (h : Plain) × IsPlainField field plain × IsHeldIn (2 ^ 64 - 1) plain h

-- a line ends with an LF
abbrev pub is_ended : List ℕ → Bool
is_ended line = ends_with nat_eq line (10 ∷ [])

-- a line without an interval is left out: it has no LF, and is not blank
abbrev pub is_left_out : List ℕ → Bool
is_left_out line = not (is_ended line) && not (list_all is_ascii_whitespace line)

-- a field is a complete histogram, plain V2
abbrev pub IsCompleteV2 : List ℕ → Type 0
IsCompleteV2 field = (h : Plain) × (is_other_form field ≡ false) × IsHeldIn (2 ^ 64 - 1) field h

-- the entry of a last line without an LF: an interval whose histogram is complete; none unless it has an interval with such a histogram, plain V2
abbrev pub IsUnended : List ℕ → Option Entry → Type 0
IsUnended line None = (i : Interval) → entry_of line ≡ Some (Span i) → IsCompleteV2 i.field → ⊥
IsUnended line (Some entry) = (i : Interval) × (entry ≡ Span i) × (entry_of line ≡ Some entry) × HoldsHistogram i.field

-- the entry of a line: a comment, a blank line, and the start of a line at the end of a log have none
abbrev pub IsEntry : List ℕ → Option Entry → Type 0
IsEntry line entry = (entry_of_line line ≡ option_map Ok entry) ⊎ ((0 < length line) × (is_ended line ≡ false) × IsUnended line entry)

-- the last base time after an entry, if there is one
abbrev pub base_then : Option ℕ → Option Entry → Option ℕ
base_then base None = base
base_then base (Some entry) = base_after base entry

-- the interval of an entry, if there is one, after the last base time
abbrev pub interval_then : Option ℕ → Option Entry → Option TimedInterval
interval_then base None = None
interval_then base (Some entry) = interval_after base entry

abbrev pub and_entry : Option Entry → List (Result Entry ℕ) → List (Result Entry ℕ)
and_entry None entries = entries
and_entry (Some entry) entries = Ok entry ∷ entries

-- the entries of lines, in order; only the first line of a log may have a byte order mark
abbrev pub AreEntries : Bool → List (List ℕ) → List (Result Entry ℕ) → Type 0
AreEntries is_first [] entries = entries ≡ []
AreEntries is_first (line ∷ lines) entries =
    (entry : Option Entry) × (rest : List (Result Entry ℕ))
    × IsEntry (without_mark is_first line) entry × (entries ≡ and_entry entry rest) × AreEntries false lines rest
