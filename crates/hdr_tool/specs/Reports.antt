-- What a report says of the samples that its lines record.
use Rattle.std.specs.Prelude.{◌≡◌, ◌-◌, ◌^◌, ◌<◌, ◌∷◌, ◌++◌, ℕ, List, [], Option, Some, None, length, codes}
use Rattle.hdr_tool.specs.Common.{decimal, enumerate_from, Ratio, Plain, CallTo, Fault, parts}
use Rattle.hdr_base.specs.Classes.{Resolution, resolution_of}
use Rattle.hdr_model.specs.Runs.{State}
use Rattle.hdr_model.specs.Samples.{StandsFor, Fits}
use Rattle.hdr_model.specs.Quantiles.{ranked_sample, IsTopNear}
use Rattle.hdr_tool.specs.Arguments.{Report, task_of}
use Rattle.hdr_tool.specs.Commands.{Command, Apply, command_of}
use Rattle.hdr_tool.specs.Program.{quantile_text, IsBytesField, Outcome}

-- a line's call changes the samples; no other line is one of a report
abbrev pub AfterCallLine : Resolution → State → Option Command → (State → Type 0) → Type 0
AfterCallLine g s (Some (Apply call)) Onward = (r : State) × CallTo (λ n. n) g call s r × Onward r
AfterCallLine g s c Onward = ⊥

-- the lines of a report's input take one state of the samples to another
abbrev pub LinesTo : Resolution → State → List (ℕ × List ℕ) → State → Type 0
LinesTo g s [] t = t ≡ s
LinesTo g s ((k, []) ∷ lines) t = LinesTo g s lines t
LinesTo g s ((k, b ∷ line) ∷ lines) t = AfterCallLine g s (command_of (b ∷ line)) (λ r. LinesTo g r lines t)

-- the lines of an input record these samples, from none on
abbrev pub InputRecords : ℕ → List ℕ → State → Type 0
InputRecords sigfig input t = LinesTo (resolution_of 1 sigfig) (record { samples = []; high = 2 }) (enumerate_from 1 (parts 10 input)) t

-- a text is a line for each quantile, in order; if there is a sample, the value at one above 0 is the top of the class of the
-- ranked sample, and near that sample
abbrev pub LinesRanked : Plain → List ℕ → List Ratio → List ℕ → Type 0
LinesRanked h S [] text = text ≡ []
LinesRanked h S (q ∷ qs) text =
    (value : ℕ) × (rest : List ℕ) × (text ≡ quantile_text q value ++ rest) × (0 < length S → 0 < q.num → IsTopNear h (ranked_sample q S) value) × LinesRanked h S qs rest

-- a text is the report of samples: their number, the line of each quantile, and the bytes of a
-- histogram with these digits that stands for them
pub record ReportsSamples (digits : ℕ) (S : List ℕ) (quantiles : List Ratio) (text : List ℕ) : Type 0 where
  pub histogram : Plain
  pub low : histogram.low ≡ 1
  pub sigfig : histogram.sigfig ≡ digits
  pub stands : StandsFor histogram S
  pub lines : List ℕ
  pub ranked : LinesRanked histogram S quantiles lines
  pub field : List ℕ
  pub bytes : IsBytesField histogram field
  pub text_is : text ≡ codes "len " ++ decimal (length S) ++ 10 ∷ [] ++ lines ++ codes "v2 " ++ field ++ 10 ∷ []

-- A report whose lines record samples, which fit at the end, has no `Fault`, and is the report of
-- these samples.
abbrev pub ReportStands : Type 0
ReportStands =
    (report : List (List ℕ)) (sigfig : ℕ) (quantiles : List Ratio) (input text : List ℕ) (fault : Option Fault) (t : State)
    → task_of report ≡ Some (Report sigfig quantiles)
    → InputRecords sigfig input t
    → Fits (2 ^ 64 - 1) (resolution_of 1 sigfig) t.samples
    → Outcome report input text fault
    → (fault ≡ None) × ReportsSamples sigfig t.samples quantiles text

-- The lines of a report without a `Fault` record samples.
abbrev pub ReportRecords : Type 0
ReportRecords =
    (report : List (List ℕ)) (sigfig : ℕ) (quantiles : List Ratio) (input text : List ℕ)
    → task_of report ≡ Some (Report sigfig quantiles)
    → Outcome report input text None
    → (t : State) × InputRecords sigfig input t
