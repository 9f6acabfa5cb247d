-- What is left of a log that is read line by line.
use Rattle.std.specs.Prelude.{◌≡◌, ⊤, ℕ, ◌+◌, ◌-◌, ◌^◌, ◌==◌, min, List, [], ◌∷◌, Option, IfSome, IsSome}
use Rattle.std.specs.Io.Buffered.{reader_remaining}
use Rattle.hdrhistogram.specs.Chosen.{view_of_interval_choice}
use Rattle.hdr_logs.specs.Intervals.{LogInterval, view_of_log_interval, TextHolds}
use Rattle.hdr_input.specs.declared.unit.Unit.{Unit}
use Rattle.hdr_logs.specs.declared.place.Place.{Place}
use Rattle.hdr_logs.specs.declared.reader.LogLine.{LogLine}
use Rattle.hdr_logs.specs.declared.reader.LogLine.TheVariants.{Chosen, Other, End}
use Rattle.hdr_logs.specs.declared.reader.LogReader.{LogReader}

-- the chosen interval of a line, if it has one
abbrev pub intervals_of_line : LogLine → List LogInterval
intervals_of_line (Chosen i) = view_of_log_interval i ∷ []
intervals_of_line Other = []
intervals_of_line End = []

abbrev pub IsEnd : LogLine → Type 0
IsEnd (Chosen i) = ⊥
IsEnd Other = ⊥
IsEnd End = ⊤

-- the bytes of a log that are not read yet, where they are known
abbrev pub unread : {R : Type 0} → (R → Option (List ℕ)) → LogReader R → Option (List ℕ)
unread remaining log = reader_remaining remaining log.reader

-- the chosen intervals of the lines that are not read yet
abbrev pub UnreadHold : {R : Type 0} → (R → Option (List ℕ)) → LogReader R → List LogInterval → Type 0
UnreadHold remaining log all =
    IfSome (unread remaining log) (λ text. TextHolds (view_of_interval_choice log.choice) (log.parser.place.line == 0) log.parser.base text all)

-- the bytes that are not read yet are known
abbrev pub IsKnown : {R : Type 0} → (R → Option (List ℕ)) → LogReader R → Type 0
IsKnown remaining log = IsSome (unread remaining log)

-- the file, and the line that was read last
abbrev pub place_of : {R : Type 0} → LogReader R → Place
place_of log = log.parser.place

-- the file, and the line that is read next
abbrev pub next_place_of : {R : Type 0} → LogReader R → Place
next_place_of log = record (place_of log) { line = min ((place_of log).line + 1) (2 ^ 64 - 1) }

-- the decimals and the unit of the last comments so far that have them
abbrev pub decimals_at : {R : Type 0} → LogReader R → Option ℕ
decimals_at log = log.parser.decimals

abbrev pub unit_at : {R : Type 0} → LogReader R → Option Unit
unit_at log = log.parser.unit

-- the interval of the last line is of its file and line, and has the decimals and the unit of the comments so far
abbrev pub HasScale : {R : Type 0} → LogReader R → LogLine → Type 0
HasScale log (Chosen i) =
    (i.decimals ≡ decimals_at log) × (i.unit ≡ unit_at log) × (i.place.file ≡ (place_of log).file) × (i.place.line ≡ (place_of log).line)
HasScale log Other = ⊤
HasScale log End = ⊤
