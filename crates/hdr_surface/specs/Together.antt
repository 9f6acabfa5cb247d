-- What laws of several crates say together.
use Rattle.std.specs.Prelude.{◌≡◌, ◌-◌, ◌^◌, ◌<◌, ◌≤◌, ℕ, List, [], Some, None, length, Result, IfOk}
use Rattle.hdr_base.specs.Classes.{most_bins, resolution_of}
use Rattle.hdr_base.specs.Fractions.{Ratio}
use Rattle.hdr_log.specs.Texts.{base64_bytes}
use Rattle.hdr_model.specs.Plain.{Plain, IsPlain, max_of}
use Rattle.hdr_model.specs.Runs.{State}
use Rattle.hdr_model.specs.Samples.{Fits}
use Rattle.hdrhistogram.specs.V2Read.{ReadsV2}
use Rattle.hdrhistogram.specs.declared.serialization.errors.DeserializeError.{DeserializeError}
use Rattle.hdr_tool.specs.Arguments.{Report, task_of}
use Rattle.hdr_tool.specs.Program.{Outcome}
use Rattle.hdr_tool.specs.Reports.{InputRecords, ReportsSamples}

-- if the lines of a report record samples that fit, it prints the report of these samples
abbrev pub SamplesAreReported : Type 0
SamplesAreReported =
    (report : List (List ℕ)) (sigfig : ℕ) (quantiles : List Ratio) (input : List ℕ) (t : State)
    → task_of report ≡ Some (Report sigfig quantiles)
    → InputRecords sigfig input t
    → Fits (2 ^ 64 - 1) (resolution_of 1 sigfig) t.samples
    → (text : List ℕ) × Outcome report input text None × ReportsSamples sigfig t.samples quantiles text

-- the lines of a report without a `Fault` record samples, and it is their report, if they fit
abbrev pub LinesAreReported : Type 0
LinesAreReported =
    (report : List (List ℕ)) (sigfig : ℕ) (quantiles : List Ratio) (input text : List ℕ)
    → task_of report ≡ Some (Report sigfig quantiles)
    → Outcome report input text None
    → (t : State) × InputRecords sigfig input t
    × (Fits (2 ^ 64 - 1) (resolution_of 1 sigfig) t.samples → ReportsSamples sigfig t.samples quantiles text)

-- a field in Base64 decodes to a histogram whose bins and greatest value are bounded, or has a defect
abbrev pub FieldsAreRead : Type 0
FieldsAreRead =
    (greatest : ℕ) (field bytes : List ℕ) → base64_bytes field ≡ Some bytes
    → (found : Result (Plain × ℕ) DeserializeError) × ReadsV2 greatest bytes found
    × IfOk found (λ f. IsPlain greatest f.0 × (length f.0.counts ≤ most_bins) × (max_of f.0 < 2 ^ 64))
