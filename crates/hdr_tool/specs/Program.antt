-- The program: its arguments, its input, its output, and the `Fault` that ends it. A stream that
-- fails is not part of it, nor is running out of memory.
use Rattle.std.specs.Prelude.{◌≡◌, ◌-◌, ◌*◌, ◌^◌, ◌∷◌, ◌++◌, if◌then◌else◌, ℕ, nat_le, List, [], Option, Some, None, MatchOption, Result, Ok, Err, Bool, true, false, MatchBool, codes}
use Rattle.hdr_tool.specs.Common.{option_map, result_err, result_map_both, flat_map, list_any, decimal, IsAtEnd, Ratio, Plain, empty_plain, after_reset, after_call, Filter, Fault, Usage, NotACommand, NotWritten, NotALog, NotBase64, NotRead, NoMemory}
use Rattle.hex.specs.Hex.{encode_lower}
use Rattle.hdr_model.specs.Quantiles.{value_at_quantile}
use Rattle.hdrhistogram.specs.Defects.{Defect, defect_of_error}
use Rattle.hdrhistogram.specs.V2.{IsV2}
use Rattle.hdrhistogram.specs.LogLeaving.{IsIntervalText}
use Rattle.hdrhistogram.specs.LogMerging.{Merging, Merges}
use Rattle.hdrhistogram.specs.declared.serialization.errors.V2SerializeError.TheVariants.{CountNotSerializable}
use Rattle.hdrhistogram.specs.declared.serialization.interval_log.errors.IntervalLogWriterError.TheVariants.{SerializeError}
use Rattle.hdrhistogram.specs.declared.serialization.interval_log.merge.MergeError.{MergeError}
use Rattle.hdrhistogram.specs.declared.serialization.interval_log.merge.MergeError.TheVariants as merging
use Rattle.hdr_tool.specs.Arguments.{Task, Report, Log, Merge, task_of, greatest_into, filter_of}
use Rattle.hdr_tool.specs.Commands.{Command, Apply, End, command_of, number_lines}

-- `NUM/DEN VALUE`, and an LF
abbrev pub quantile_text : Ratio → ℕ → List ℕ
quantile_text q value = decimal q.num ++ 47 ∷ [] ++ decimal q.den ++ 32 ∷ [] ++ decimal value ++ 10 ∷ []

-- the line of a quantile
abbrev pub quantile_line : Plain → Ratio → List ℕ
quantile_line h q = quantile_text q (value_at_quantile h q)

-- some count is too great for bytes
unfoldable pub has_too_great_count : Plain → Bool
has_too_great_count h = list_any (λ n. nat_le (2 ^ 63) n) h.counts

-- a field holds the histogram's bytes in hexadecimal, or `none` if a count is too great for bytes
abbrev pub IsBytesField : Plain → List ℕ → Type 0
IsBytesField h field = MatchBool (has_too_great_count h) (field ≡ codes "none") ((bytes : List ℕ) × IsV2 h bytes × (field ≡ encode_lower bytes))

-- a report is `len N`, a line for each quantile in order, and `v2` with the field of the bytes
abbrev pub IsReport : Plain → List Ratio → List ℕ → Type 0
IsReport h quantiles text =
    (field : List ℕ) × IsBytesField h field × (text ≡ codes "len " ++ decimal h.total ++ 10 ∷ []
    ++ flat_map (quantile_line h) quantiles
    ++ codes "v2 " ++ field ++ 10 ∷ [])

-- an interval that an `end` line closes: what it holds, its tag, and its start and its duration in
-- milliseconds
pub record Interval (A : Type 0) : Type 0 where
  pub holds : A
  pub tag : Option (List ℕ)
  pub start : ℕ
  pub duration : ℕ

-- the result of lines: the intervals that they end, in order, and the histogram after them or the
-- first `Fault`
pub record Run : Type 0 where
  pub intervals : List (Interval Plain)
  pub ended : Result Plain Fault

abbrev pub ended_by : Result Plain Fault → Run
ended_by ended = record { intervals = []; ended = ended }

abbrev pub prepend : List (Interval Plain) → Run → Run
prepend is run = record { intervals = is ++ run.intervals; ended = run.ended }

-- the interval that ends at line k, and then what follows
abbrev pub run_end : ℕ → Plain → ℕ → ℕ → Option (List ℕ) → (Plain → Run) → Run
run_end k h start duration tag onward =
    if has_too_great_count h then ended_by (Err (NotWritten k (SerializeError CountNotSerializable)))
    else prepend (record { holds = h; tag = tag; start = start; duration = duration } ∷ []) (onward (after_reset h))

-- the command of line k, and then what follows; `end` is a command of a log only
abbrev pub run_command : Bool → ℕ → Plain → Option Command → (Plain → Run) → Run
run_command is_log k h (Some (Apply call)) onward = onward (after_call (2 ^ 64 - 1) (λ n. n) call h)
run_command true k h (Some (End start duration tag)) onward = run_end k h start duration tag onward
run_command is_log k h c onward = ended_by (Err (NotACommand k))

-- numbered lines in order, up to the first `Fault`; an empty one changes nothing
abbrev pub lines_run : Bool → Plain → List (ℕ × List ℕ) → Run
lines_run is_log h [] = ended_by (Ok h)
lines_run is_log h ((k, []) ∷ lines) = lines_run is_log h lines
lines_run is_log h ((k, b ∷ line) ∷ lines) = run_command is_log k h (command_of (b ∷ line)) (λ g. lines_run is_log g lines)

-- the lines of the rest of a text, the first of which has this number, and then more lines
abbrev pub rest_run : Bool → Plain → ℕ → Option (List ℕ) → List (ℕ × List ℕ) → Run
rest_run is_log h number left more = lines_run is_log h (number_lines number left ++ more)

-- the lines of an input, run on an empty histogram that grows: those of a report, and those of a log
abbrev pub input_run : Bool → ℕ → List ℕ → Run
input_run is_log sigfig input = lines_run is_log (empty_plain 1 2 sigfig true) (number_lines 1 (Some input))

-- the text of intervals, one after another
abbrev pub IsLogText : List (Interval Plain) → List ℕ → Type 0
IsLogText [] text = text ≡ []
IsLogText (i ∷ is) text =
    (line : List ℕ) × (rest : List ℕ) × IsIntervalText IsV2 i.holds i.tag (i.start * 1_000_000) (i.duration * 1_000_000) 1 line × IsLogText is rest × (text ≡ line ++ rest)

-- the intervals of a log are written up to the first `Fault`
abbrev pub Logged : Run → List ℕ → Option Fault → Type 0
Logged run text fault = IsLogText run.intervals text × (fault ≡ result_err run.ended)

-- only the first intervals of a log are written
abbrev pub LoggedFirst : Run → List ℕ → Type 0
LoggedFirst run text = (is : List (Interval Plain)) × (rest : List (Interval Plain)) × (run.intervals ≡ is ++ rest) × IsLogText is text

-- a report is written only if no `Fault` ended the run
abbrev pub Reported : List Ratio → Result Plain Fault → List ℕ → Option Fault → Type 0
Reported quantiles (Ok h) text fault = IsReport h quantiles text × (fault ≡ None)
Reported quantiles (Err f) text fault = (text ≡ []) × (fault ≡ Some f)

-- the `Fault` of a merge's error; each number of digits that arguments can have is valid
abbrev pub merge_fault : MergeError → Fault
merge_fault (merging.Parse at) = NotALog at
merge_fault (merging.Base64 k) = NotBase64 k
merge_fault (merging.Decode k e) = NotRead k e
merge_fault e = NoMemory

-- a report of a log's chosen intervals, added in order with counters up to the greatest, up to the
-- first error
abbrev pub MergeReported : ℕ → Filter → ℕ → List Ratio → List ℕ → List ℕ → Option Fault → Type 0
MergeReported greatest filter sigfig quantiles input text fault =
    (r : Result Merging MergeError) × Merges greatest filter sigfig input r × Reported quantiles (result_map_both (λ m. m.histogram) merge_fault r) text fault

-- the texts that a run may have written, by how it ends
pub record Outputs : Type 1 where
  -- all of its output, and the `Fault` that ends it, if one does
  pub whole : List ℕ → Option Fault → Type 0
  -- what is written when memory runs out or the reader fails
  pub early : List ℕ → Type 0
  -- a text of which the writer has a proper prefix when it fails
  pub begun : List ℕ → Type 0

-- a report is written at the end
abbrev pub at_end : (List ℕ → Option Fault → Type 0) → Outputs
at_end whole = record { whole = whole; early = λ text. text ≡ []; begun = λ text. whole text None }

-- the intervals of a log are written as they are reached
abbrev pub as_reached : Run → Outputs
as_reached run = record { whole = Logged run; early = LoggedFirst run; begun = LoggedFirst run }

-- the outputs of a task: a report of the histogram after the lines, a log, or a report of a merged log
abbrev pub outputs_of : Task → List ℕ → Outputs
outputs_of (Report sigfig quantiles) input = at_end (Reported quantiles (input_run false sigfig input).ended)
outputs_of (Log sigfig) input = as_reached (input_run true sigfig input)
outputs_of (Merge options sigfig quantiles) input = at_end (MergeReported (greatest_into options.into) (filter_of options) sigfig quantiles input)

-- what is left of the input if the writer fails: a log is written while its input is read, and ends
-- there
abbrev pub TaskLeaves : Task → Option (List ℕ) → Type 0
TaskLeaves (Log sigfig) left = Unit {0}
TaskLeaves task left = IsAtEnd left

-- the outcome of arguments and an input. The arguments are parsed first
unfoldable pub Outcome : List (List ℕ) → List ℕ → List ℕ → Option Fault → Type 0
Outcome arguments input text fault = MatchOption (task_of arguments) ((text ≡ []) × (fault ≡ Some Usage)) (λ task. (outputs_of task input).whole text fault)

-- a `Fault`; of bytes that are not a histogram only the defect counts
pub data FaultKind : Type 0 where
  Named : Fault → FaultKind
  Unread : ℕ → Option Defect → FaultKind

abbrev pub kind_of : Fault → FaultKind
kind_of (NotRead k e) = Unread k (defect_of_error e)
kind_of f = Named f

-- arguments and an input have at most one outcome
abbrev pub OneOutcome : Type 0
OneOutcome = (arguments : List (List ℕ)) (input a b : List ℕ) (f g : Option Fault) → Outcome arguments input a f → Outcome arguments input b g → (a ≡ b) × (option_map kind_of f ≡ option_map kind_of g)

-- arguments and an input have an outcome
abbrev pub OutcomeExists : Type 0
OutcomeExists = (arguments : List (List ℕ)) (input : List ℕ) → (text : List ℕ) × (fault : Option Fault) × Outcome arguments input text fault
