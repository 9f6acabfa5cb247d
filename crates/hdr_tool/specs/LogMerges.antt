-- What a merge of a written log adds.
use Rattle.std.specs.Prelude.{◌≡◌, ◌-◌, ◌*◌, ◌^◌, ◌≤◌, if◌then◌else◌, ◌∷◌, ℕ, List, [], Option, Some, None, true}
use Rattle.hdr_tool.specs.Common.{filter_map, AllByRecursion, AllZip, enumerate_from, Ratio, Plain, IsPlain, resolution, empty_plain, after_reset, after_call, CallTo, Filter, is_chosen, Fault, parts}
use Rattle.hdr_model.specs.Runs.{StandsWhereFits, State}
use Rattle.hdr_model.specs.Samples.{StandsFor, Fits}
use Rattle.hdr_model.specs.Joining.{after_adds, joined_samples, AnswersRanked}
use Rattle.hdr_base.specs.Classes.{Resolution, resolution_of}
use Rattle.hdrhistogram.specs.V2Read.{IsReadBack}
use Rattle.hdr_tool.specs.Commands.{Command, Apply, End, command_of}
use Rattle.hdr_tool.specs.Arguments.{Options, greatest_into, filter_of, Log, Merge, task_of}
use Rattle.hdr_tool.specs.Program.{IsReport, Interval, Outcome}

-- what the chosen ones of a log's intervals hold; a written log has no base time
abbrev pub chosen_of : {A : Type 0} → Filter → List (Interval A) → List A
chosen_of filter ends = filter_map (λ e. if is_chosen filter e.tag (e.start * 1_000_000) then Some e.holds else None) ends

-- the intervals that commands end: what a command adds to those that come after it
abbrev pub at_command : Plain → Option Command → (Plain → List (Interval Plain)) → List (Interval Plain)
at_command h None onward = []
at_command h (Some (Apply call)) onward = onward (after_call (2 ^ 64 - 1) (λ n. n) call h)
at_command h (Some (End start duration tag)) onward = record { holds = h; tag = tag; start = start; duration = duration } ∷ onward (after_reset h)

-- the intervals that the lines of a log's input end, from a histogram on
abbrev pub ends_of : Plain → List (ℕ × List ℕ) → List (Interval Plain)
ends_of h [] = []
ends_of h ((k, []) ∷ lines) = ends_of h lines
ends_of h ((k, b ∷ line) ∷ lines) = at_command h (command_of (b ∷ line)) (λ g. ends_of g lines)

-- A log that was written without a `Fault` is merged without one. The report is that of its chosen
-- intervals, each written and read again, added in order to an empty histogram.
abbrev pub LogThenMerge : Type 0
LogThenMerge =
    (log merge : List (List ℕ)) (sigfig fewer : ℕ) (options : Options) (quantiles : List Ratio) (input written text : List ℕ) (fault : Option Fault)
    → task_of log ≡ Some (Log sigfig) → task_of merge ≡ Some (Merge options fewer quantiles)
    → AllByRecursion (λ (e : Interval Plain). IsPlain (2 ^ 64 - 1) e.holds) (ends_of (empty_plain 1 2 sigfig true) (enumerate_from 1 (parts 10 input)))
    → Outcome log input written None → Outcome merge written text fault
    → (fault ≡ None) × ((ks : List Plain) × AllZip IsReadBack (chosen_of (filter_of options) (ends_of (empty_plain 1 2 sigfig true) (enumerate_from 1 (parts 10 input)))) ks
    × IsReport (after_adds (greatest_into options.into) (empty_plain 1 2 fewer true) ks) quantiles text)

-- a command changes the samples, or ends an interval with them, if they fit, and starts one with
-- none
abbrev pub AfterCommand : Resolution → State → Option Command → (State → List (Interval (List ℕ)) → Type 0) → List (Interval (List ℕ)) → Type 0
AfterCommand g s None Onward Ls = Ls ≡ []
AfterCommand g s (Some (Apply call)) Onward Ls = (t : State) × CallTo (λ n. n) g call s t × Onward t Ls
AfterCommand g s (Some (End start duration tag)) Onward Ls =
    (rest : List (Interval (List ℕ))) × (Ls ≡ record { holds = s.samples; tag = tag; start = start; duration = duration } ∷ rest)
    × Fits (2 ^ 64 - 1) g s.samples × Onward (record { samples = []; high = s.high }) rest

-- the samples before the ends of the lines of a log's input, which fit at each end
abbrev pub EndsWith : Resolution → State → List (ℕ × List ℕ) → List (Interval (List ℕ)) → Type 0
EndsWith g s [] Ls = Ls ≡ []
EndsWith g s ((k, []) ∷ lines) Ls = EndsWith g s lines Ls
EndsWith g s ((k, b ∷ line) ∷ lines) Ls = AfterCommand g s (command_of (b ∷ line)) (λ t rest. EndsWith g t lines rest) Ls

-- a histogram with these classes stands for samples, in an interval of the same tag and times
pub record IsEnd (g : Resolution) (h : Interval Plain) (L : Interval (List ℕ)) : Type 0 where
  pub plain : IsPlain (2 ^ 64 - 1) h.holds
  pub stands : StandsFor h.holds L.holds
  pub classes : resolution h.holds ≡ g
  pub tag : h.tag ≡ L.tag
  pub start : h.start ≡ L.start
  pub duration : h.duration ≡ L.duration

-- the histograms of a log's intervals stand for the samples of these intervals
abbrev pub EndsStand : Type 0
EndsStand =
    (h : Plain) (s : State) (lines : List (ℕ × List ℕ)) (Ls : List (Interval (List ℕ))) → IsPlain (2 ^ 64 - 1) h → StandsWhereFits (2 ^ 64 - 1) h s → EndsWith (resolution h) s lines Ls
    → AllZip (IsEnd (resolution h)) (ends_of h lines) Ls

-- Samples that are logged and merged again. A merge of the written log, with as many digits or
-- fewer, has no `Fault`. Its histogram stands for the samples of the chosen intervals, joined. The
-- value of each quantile above 0 is the top of the class of the ranked sample, near it.
abbrev pub LogMergeStands : Type 0
LogMergeStands =
    (log merge : List (List ℕ)) (sigfig fewer : ℕ) (options : Options) (quantiles : List Ratio) (input written text : List ℕ) (fault : Option Fault) (Ls : List (Interval (List ℕ)))
    → task_of log ≡ Some (Log sigfig) → task_of merge ≡ Some (Merge options fewer quantiles) → fewer ≤ sigfig
    → EndsWith (resolution_of 1 sigfig) (record { samples = []; high = 2 }) (enumerate_from 1 (parts 10 input)) Ls
    → Fits (greatest_into options.into) (resolution_of 1 fewer) (joined_samples (chosen_of (filter_of options) Ls))
    → Outcome log input written None → Outcome merge written text fault
    → (fault ≡ None) × ((h : Plain) × (h.low ≡ 1) × (h.sigfig ≡ fewer) × IsReport h quantiles text × StandsFor h (joined_samples (chosen_of (filter_of options) Ls))
    × AnswersRanked h (joined_samples (chosen_of (filter_of options) Ls)))
