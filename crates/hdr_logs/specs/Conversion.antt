-- What becomes of the lines of interval logs whose histograms are converted.
use Rattle.std.specs.Prelude.{◌≡◌, ◌==◌, ℕ, Bool, true, false, if◌then◌else◌, List, [], ◌∷◌, ◌++◌, Option, Some, None, IfSome}
use Rattle.hdr_log.specs.Grammar.{Entry}
use Rattle.hdr_log.specs.Timed.{TimedInterval}
use Rattle.hdrhistogram.specs.Chosen.{Filter, view_of_interval_choice}
use Rattle.hdr_convert.specs.Lines.{IsConverted}
use Rattle.hdr_convert.specs.declared.bytes.Form.{Form}
use Rattle.hdr_input.specs.Lines.{without_mark}
use Rattle.hdr_logs.specs.Lines.{AreLines}
use Rattle.hdr_logs.specs.Entries.{IsEntry, is_left_out, base_then, interval_then}
use Rattle.hdr_logs.specs.Intervals.{is_chosen_interval}
use Rattle.hdr_logs.specs.Reading.{unread}
use Rattle.hdr_logs.specs.declared.reader.LogReader.{LogReader}

-- the line of a chosen interval has its histogram in this form, and that of another interval is left out
abbrev pub BecomesIf : Bool → Form → List ℕ → List ℕ → List ℕ → Type 0
BecomesIf false form field line text = text ≡ []
BecomesIf true form field line text = IsConverted form field line text

-- what becomes of a line, by its interval: a line without one stays as it is, unless it is left out
abbrev pub LineBecomes : Form → Filter → Option TimedInterval → List ℕ → List ℕ → Type 0
LineBecomes form filter None line text = text ≡ (if is_left_out line then [] else line)
LineBecomes form filter (Some t) line text = BecomesIf (is_chosen_interval filter t) form t.interval.field line text

-- what becomes of lines, one after the other; only the first line of a log may have a byte order mark, which is left out
abbrev pub LinesBecome : Form → Filter → Bool → Option ℕ → List (List ℕ) → List ℕ → Type 0
LinesBecome form filter is_first base [] text = text ≡ []
LinesBecome form filter is_first base (line ∷ lines) text =
    (entry : Option Entry) × (start : List ℕ) × (rest : List ℕ)
    × IsEntry (without_mark is_first line) entry × LineBecomes form filter (interval_then base entry) (without_mark is_first line) start
    × LinesBecome form filter false (base_then base entry) lines rest × (text ≡ start ++ rest)

-- what becomes of a text, after the last base time before it
abbrev pub TextBecomes : Form → Filter → Bool → Option ℕ → List ℕ → List ℕ → Type 0
TextBecomes form filter is_first base old new = (lines : List (List ℕ)) × AreLines lines old × LinesBecome form filter is_first base lines new

-- what becomes of a log
abbrev pub LogBecomes : Form → Filter → List ℕ → List ℕ → Type 0
LogBecomes form filter old new = TextBecomes form filter true None old new

-- what becomes of the lines that are not read yet
abbrev pub UnreadBecomes : {R : Type 0} → (R → Option (List ℕ)) → Form → LogReader R → List ℕ → Type 0
UnreadBecomes remaining form log new =
    IfSome (unread remaining log) (λ text. TextBecomes form (view_of_interval_choice log.choice) (log.parser.place.line == 0) log.parser.base text new)

-- the next line is converted, and this is appended to a text
abbrev pub ConvertsLine : {R : Type 0} → (R → Option (List ℕ)) → Form → LogReader R → LogReader R → List ℕ → List ℕ → Type 0
ConvertsLine remaining form old new before after =
    (text : List ℕ) × (after ≡ before ++ text)
    × ((rest : List ℕ) → UnreadBecomes remaining form new rest → UnreadBecomes remaining form old (text ++ rest))
