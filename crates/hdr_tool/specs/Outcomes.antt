-- The errors of a run, the memory that lines need, and what a call leaves in the streams.
use Rattle.std.specs.Prelude.{◌≡◌, ◌⊎◌, ◌-◌, ◌^◌, ◌∷◌, ◌++◌, ℕ, List, [], Option, Some, None, IfSome, Result, Ok, Err, IfOk, Bool, true, codes}
use Rattle.hdr_tool.specs.Common.{decimal, Appends, IsAtEnd, Plain, after_call, IsCallError, Fault, Usage, NotACommand, NotALog, NotBase64, NoMemory, CannotRead, CannotWrite}
use Rattle.hdr_core.specs.declared.call.CallError.{CallError}
use Rattle.hdrhistogram.specs.Streams.{AppendsFront}
use Rattle.hdr_tool.specs.Commands.{Command, Apply, End, command_of}
use Rattle.hdr_tool.specs.Program.{Interval, Run, prepend, IsLogText, Outputs, as_reached}

-- the fault line on standard error; `None` if its text is partly the library's: for a histogram
-- that is not written, and for bytes that are not a histogram
abbrev pub fault_text : Fault → Option (List ℕ)
fault_text Usage = Some (codes "hdr: usage: hdr report SIGFIG Q.. | hdr log SIGFIG | hdr merge [--into COUNTER] [--tag T] [--from MS] [--to MS] SIGFIG Q..")
fault_text (NotACommand k) = Some (codes "hdr: line " ++ decimal k ++ codes ": not a command")
fault_text (NotALog at) = Some (codes "hdr: log: parse error at byte " ++ decimal at)
fault_text (NotBase64 k) = Some (codes "hdr: interval " ++ decimal k ++ codes ": not base64")
fault_text NoMemory = Some (codes "hdr: no memory")
fault_text CannotRead = Some (codes "hdr: cannot read the input")
fault_text CannotWrite = Some (codes "hdr: cannot write the output")
fault_text _ = None

-- the exit status
abbrev pub status_of : Fault → ℕ
status_of Usage = 2
status_of _ = 1

-- memory is needed for a call that returns an error although the histogram grows, for an interval,
-- or for what follows
abbrev pub CommandNeeds : Bool → Plain → Option Command → (Plain → Type 0) → Type 0
CommandNeeds is_log h (Some (Apply call)) Onward = ((e : CallError) × IsCallError h call e × (h.auto_resize ≡ true)) ⊎ Onward (after_call (2 ^ 64 - 1) (λ n. n) call h)
CommandNeeds true h (Some (End start duration tag)) Onward = Unit
CommandNeeds is_log h c Onward = ⊥

-- memory is needed for one of these lines
abbrev pub LinesNeed : Bool → Plain → List (ℕ × List ℕ) → Type 0
LinesNeed is_log h [] = ⊥
LinesNeed is_log h ((k, []) ∷ lines) = LinesNeed is_log h lines
LinesNeed is_log h ((k, b ∷ line) ∷ lines) = CommandNeeds is_log h (command_of (b ∷ line)) (λ g. LinesNeed is_log g lines)

-- memory may run out in a part of the lines only if it is needed there. `Whole more` means that the
-- part with `more` lines after it needs memory, and `Onward more` that these alone do
abbrev pub Needs : {M A : Type 0} → (M → Type 0) → (M → Type 0) → Result A Fault → Type 0
Needs {M = M} Whole Onward (Ok a) = (more : M) → Onward more → Whole more
Needs {M = M} Whole Onward (Err NoMemory) = (more : M) → Whole more
Needs Whole Onward (Err f) = Unit

-- what ends a run early: memory that runs out or a reader that fails (Resource), a writer that fails
-- (Output), the contents of the input, or the arguments (Misuse)
pub data Cause : Type 0 where
  Resource : Cause
  Output : Cause
  Input : Cause
  Misuse : Cause

abbrev pub cause_of : Fault → Cause
cause_of NoMemory = Resource
cause_of CannotRead = Resource
cause_of CannotWrite = Output
cause_of Usage = Misuse
cause_of f = Input

-- what a run that fails has written
abbrev pub Fails : Outputs → Option (List ℕ) → Option (List ℕ) → Cause → Fault → Type 0
Fails outputs old new Resource f = (text : List ℕ) × outputs.early text × Appends old new text
Fails outputs old new Output f = (text : List ℕ) × outputs.begun text × AppendsFront old new text
Fails outputs old new Input f = (text : List ℕ) × outputs.whole text (Some f) × Appends old new text
Fails outputs old new Misuse f = ⊥

-- what a run has written
abbrev pub Writes : {A : Type 0} → Outputs → Option (List ℕ) → Option (List ℕ) → Result A Fault → Type 0
Writes outputs old new (Ok a) = (text : List ℕ) × outputs.whole text None × Appends old new text
Writes outputs old new (Err f) = Fails outputs old new (cause_of f) f

-- the intervals of all lines are written, and their histogram is returned
abbrev pub RunsAll : Run → Option (List ℕ) → Option (List ℕ) → Result Plain Fault → Type 0
RunsAll run old new result = Writes (as_reached run) old new result × IfOk result (λ h. run.ended ≡ Ok h)

-- P holds of all of an input, whose bytes may be known
abbrev pub OnInput : Option (List ℕ) → (List ℕ → Type 0) → Type 0
OnInput known P = (input : List ℕ) × IfSome known (λ bytes. input ≡ bytes) × P input

-- the outputs of a part of a run: those that hold whatever lines follow it
abbrev pub whatever_follows : {M : Type 0} → (M → Outputs) → Outputs
whatever_follows {M = M} outputs =
    record { whole = λ text fault. (more : M) → (outputs more).whole text fault; early = λ text. (more : M) → (outputs more).early text; begun = λ text. (more : M) → (outputs more).begun text }

-- one step of a run. Whatever lines follow, the run from before the step (`whole`) is the intervals
-- that the step writes and then the run from after it (`onward`); or the step fails, and the first
-- intervals are written
abbrev pub IsStep : {M A : Type 0} → (M → Run) → (M → Run) → Option (List ℕ) → Option (List ℕ) → Result A Fault → Type 0
IsStep {M = M} whole onward old new (Ok a) =
    (is : List (Interval Plain)) × ((text : List ℕ) × IsLogText is text × Appends old new text) × ((more : M) → whole more ≡ prepend is (onward more))
IsStep whole onward old new (Err f) = Fails (whatever_follows (λ more. as_reached (whole more))) old new (cause_of f) f

-- all of the input is read before a `Fault` of it is returned. Leaves holds of the rest of the
-- input if the writer fails.
abbrev pub ReadsTo : (Option (List ℕ) → Type 0) → Option (List ℕ) → Cause → Type 0
ReadsTo Leaves new Output = Leaves new
ReadsTo Leaves new Input = IsAtEnd new
ReadsTo Leaves new c = Unit {0}

-- all of the input is read, unless memory or a stream fails
abbrev pub ReadsAll : {A : Type 0} → (Option (List ℕ) → Type 0) → Option (List ℕ) → Result A Fault → Type 0
ReadsAll Leaves new (Ok a) = IsAtEnd new
ReadsAll Leaves new (Err f) = ReadsTo Leaves new (cause_of f)
