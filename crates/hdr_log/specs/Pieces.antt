-- A log as the pieces that calls write, one for each call, and what is read of each.
use Rattle.std.specs.Prelude.{◌≡◌, ℕ, ◌*◌, ◌/◌, ◌<◌, ◌^◌, ◌==◌, not, true, List, [], ◌∷◌, Option, Some, None, Result, Ok, map, codes}
use Rattle.std.specs.List.{flat_map, list_all}
use Rattle.std.specs.Option.{option_map, option_or}
use Rattle.std.specs.Str.{is_utf8}
use Rattle.hdr_log.specs.Parts.{parts}
use Rattle.hdr_log.specs.Grammar.{Entry, Start, Base, Span, Interval, interval_of, header_of, without_crs}
use Rattle.hdr_log.specs.Texts.{thousandths_text, lines_text, comment_line, start_line, base_line, divisor_line, interval_line, AreTags}

-- a comment, a start time, a base time, a divisor of greatest values, or an interval: tag, start, duration, greatest
-- value and field. Times and greatest values are in thousandths.
pub data Piece : Type 0 where
  Comment : List ℕ → Piece
  StartsAt : ℕ → Piece
  BasedAt : ℕ → Piece
  Divided : ℕ → Piece
  Measured : Option (List ℕ) → ℕ → ℕ → ℕ → List ℕ → Piece

-- the lines of a piece, without their LFs
abbrev pub lines_of : Piece → List (List ℕ)
lines_of (Comment text) = map comment_line (parts 10 text)
lines_of (StartsAt t) = start_line t ∷ []
lines_of (BasedAt t) = base_line t ∷ []
lines_of (Divided d) = divisor_line d ∷ []
lines_of (Measured tag start duration max field) = interval_line tag start duration max field ∷ []

-- the text of a piece, and of all that is written
unfoldable pub piece_text : Piece → List ℕ
piece_text piece = lines_text (lines_of piece)

abbrev pub text_of : List Piece → List ℕ
text_of pieces = flat_map piece_text pieces

-- the header that a line of a comment contains, if it does
abbrev pub entry_of_header : List ℕ → Option Entry
entry_of_header part = option_or (option_map Start (header_of (codes "#[StartTime: ") (comment_line part))) (option_map Base (header_of (codes "#[BaseTime: ") (comment_line part)))

abbrev pub and_entry : Option Entry → List Entry → List Entry
and_entry None entries = entries
and_entry (Some entry) entries = entry ∷ entries

abbrev pub entries_of_headers : List (List ℕ) → List Entry
entries_of_headers [] = []
entries_of_headers (part ∷ parts) = and_entry (entry_of_header part) (entries_of_headers parts)

-- what is read of an interval
abbrev pub interval_of_piece : Option (List ℕ) → ℕ → ℕ → ℕ → List ℕ → Interval
interval_of_piece tag start duration max field = record { tag = tag; start = start * 1_000_000; duration = duration * 1_000_000; max = thousandths_text max; field = field }

-- the line of an interval is parsed as this
abbrev pub IsIntervalRead : Option (List ℕ) → ℕ → ℕ → ℕ → List ℕ → Type 0
IsIntervalRead tag start duration max field = interval_of (interval_line tag start duration max field) ≡ Some (interval_of_piece tag start duration max field)

-- what is read of a piece: of a comment the headers that its lines contain, and of a divisor nothing
abbrev pub entries_of_piece : Piece → List Entry
entries_of_piece (Comment text) = entries_of_headers (parts 10 text)
entries_of_piece (StartsAt t) = Start (t * 1_000_000) ∷ []
entries_of_piece (BasedAt t) = Base (t * 1_000_000) ∷ []
entries_of_piece (Divided d) = []
entries_of_piece (Measured tag start duration max field) = Span (interval_of_piece tag start duration max field) ∷ []

-- a field as it may be written: text without LF, and with no CR at its end
pub record IsField (field : List ℕ) : Type 0 where
  pub text : is_utf8 field ≡ true
  pub whole : without_crs field ≡ field
  pub line : list_all (λ b. not (b == 10)) field ≡ true

-- what may be written: the seconds of a time and the integer part of a greatest value fit 64 bits
abbrev pub IsPiece : Piece → Type 0
IsPiece (Comment text) = Unit {0}
IsPiece (StartsAt t) = t / 1000 < 2 ^ 64
IsPiece (BasedAt t) = t / 1000 < 2 ^ 64
IsPiece (Divided d) = d < 2 ^ 64
IsPiece (Measured tag start duration max field) = AreTags tag × (start / 1000 < 2 ^ 64) × (duration / 1000 < 2 ^ 64) × (max / 1000 < 2 ^ 64) × IsField field

-- an entry as the reader returns it
abbrev pub is_read : Entry → Result Entry ℕ
is_read entry = Ok entry
