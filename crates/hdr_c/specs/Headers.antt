-- The headers of a log, and the unit and decimals of its values.
use Rattle.std.specs.Prelude.{◌≡◌, ℕ, ◌-◌, ◌&&◌, nat_lt, if◌then◌else◌, bytes_eq, codes, unwrap_or, List, [], ◌∷◌, length, take, Option, Some, None}
use Rattle.std.specs.Option.{option_or, is_some}
use Rattle.std.specs.Char.{is_ascii_whitespace}
use Rattle.std.specs.List.{suffix_len}
use Rattle.hdr_log.specs.Parts.{◌>>=◌, parts, split_at_byte, number_of}
use Rattle.hdr_log.specs.Grammar.{Entry, Start, Base, Span, entry_of, after_front}
use Rattle.hdr_c.specs.declared.log_start.LogHeader.{LogHeader}
use Rattle.hdr_c.specs.Times.{as_time}

-- what the first line has that has something. The last part between LFs does not count, as its line is not complete
unfoldable pub first_in : (List ℕ → Option ℕ) → List (List ℕ) → Option ℕ
first_in find [] = None
first_in find (part ∷ []) = None
first_in find (line ∷ part ∷ rest) = option_or (find line) (first_in find (part ∷ rest))

abbrev pub start_of_entry : Option Entry → Option ℕ
start_of_entry None = None
start_of_entry (Some (Start time)) = Some time
start_of_entry (Some (Base time)) = None
start_of_entry (Some (Span i)) = None

-- the start time of a line in nanoseconds, if it is the header of one
abbrev pub start_in : List ℕ → Option ℕ
start_in line = start_of_entry (entry_of line)

-- a line without the ASCII whitespace at its end, such as a CR
abbrev pub trimmed : List ℕ → List ℕ
trimmed line = take (length line - suffix_len is_ascii_whitespace line) line

-- the number of nanoseconds of the unit in a comment, if the line is one with a unit
unfoldable pub unit_in : List ℕ → Option ℕ
unit_in line =
    if bytes_eq (trimmed line) (codes "#[Values are in ns]") then Some 1
    else if bytes_eq (trimmed line) (codes "#[Values are in us]") then Some 1_000
    else if bytes_eq (trimmed line) (codes "#[Values are in ms]") then Some 1_000_000
    else if bytes_eq (trimmed line) (codes "#[Values are in s]") then Some 1_000_000_000
    else None

-- the number in a comment of decimals, at most 18, if the line is one
unfoldable pub decimals_in : List ℕ → Option ℕ
decimals_in line = do
  rest ← after_front (codes "#[Values have ") (trimmed line)
  sides ← split_at_byte 32 rest
  decimals ← number_of sides.0
  if bytes_eq sides.1 (codes "decimals]") && nat_lt decimals 19 then Some decimals else None

-- the first start time, decimals and unit of a log, or 0 for none
pub record IsHeader (log : List ℕ) (header : LogHeader) : Type 0 where
  pub start_time : as_time header.start_time ≡ unwrap_or (first_in start_in (parts 10 log)) 0
  pub has_start_time : header.has_start_time ≡ is_some (first_in start_in (parts 10 log))
  pub decimals : header.decimals ≡ unwrap_or (first_in decimals_in (parts 10 log)) 0
  pub unit_nanos : header.unit_nanos ≡ unwrap_or (first_in unit_in (parts 10 log)) 0
