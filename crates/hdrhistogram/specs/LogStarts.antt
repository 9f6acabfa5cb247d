-- The start of an interval log (the Rust crate's `IntervalLogWriterBuilder`).
use Rattle.std.specs.Prelude.{◌≡◌, ℕ, ◌/◌, ◌<◌, ◌^◌, ◌==◌, if◌then◌else◌, List, [], ◌∷◌, ◌++◌, Option, Some, None, map}
use Rattle.std.specs.List.{AllByRecursion}
use Rattle.std.specs.Option.{option_map}
use Rattle.hdr_log.specs.Texts.{to_thousandths}
use Rattle.hdr_log.specs.Pieces.{Piece, Comment, StartsAt, BasedAt, Divided, IsPiece, text_of}

-- the comments in order, the times of headers in nanoseconds since the epoch if they are set, and
-- the divisor of greatest values
pub record LogStart : Type 0 where
  pub comments : List (List ℕ)
  pub start_time : Option ℕ
  pub base_time : Option ℕ
  pub divisor : ℕ

-- nothing is set
abbrev pub new_start : LogStart
new_start = record { comments = []; start_time = None; base_time = None; divisor = 1 }

-- a time that is set, in thousandths of a second
abbrev pub thousandths_set : Option ℕ → Option ℕ
thousandths_set time = option_map to_thousandths time

-- the seconds of a time that is set fit 64 bits
abbrev pub AreSmall : Option ℕ → Type 0
AreSmall None = Unit {0}
AreSmall (Some t) = t / 1000 < 2 ^ 64

-- the header of a time, if it is set
abbrev pub time_pieces : (ℕ → Piece) → Option ℕ → List Piece
time_pieces header None = []
time_pieces header (Some t) = header t ∷ []

-- the header of a divisor, unless that is 1
abbrev pub divisor_pieces : ℕ → List Piece
divisor_pieces divisor = if divisor == 1 then [] else Divided divisor ∷ []

-- comments, and then headers
abbrev pub start_pieces : List (List ℕ) → Option ℕ → Option ℕ → ℕ → List Piece
start_pieces comments start_time base_time divisor =
    map Comment comments ++ (time_pieces StartsAt start_time ++ (time_pieces BasedAt base_time ++ divisor_pieces divisor))

abbrev pub pieces_of : LogStart → List Piece
pieces_of s = start_pieces s.comments (thousandths_set s.start_time) (thousandths_set s.base_time) s.divisor

-- the seconds that are printed of each time fit 64 bits
abbrev pub AreTimesInRange : LogStart → Type 0
AreTimesInRange s = AreSmall (thousandths_set s.start_time) × AreSmall (thousandths_set s.base_time)

-- the text that a log starts with
abbrev pub IsStartText : LogStart → List ℕ → Type 0
IsStartText s text = AllByRecursion IsPiece (pieces_of s) × (text ≡ text_of (pieces_of s))
