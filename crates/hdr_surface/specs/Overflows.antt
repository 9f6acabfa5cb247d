-- Logs whose samples overflow where no interval ends.
use Rattle.std.specs.Prelude.{◌≡◌, ◌≤◌, ℕ, List, [], ◌∷◌, Option, Some, None, codes}
use Rattle.hdr_base.specs.Fractions.{Ratio}
use Rattle.hdr_model.specs.Plain.{Plain}
use Rattle.hdr_model.specs.Samples.{StandsFor}
use Rattle.hdr_log.specs.Texts.{lines_text}
use Rattle.hdr_tool.specs.declared.fault.Fault.{Fault}
use Rattle.hdr_tool.specs.Arguments.{no_options, Log, Merge, task_of}
use Rattle.hdr_tool.specs.Program.{IsReport, Outcome}

-- after the last `end` come more samples than 64 bits count
abbrev pub past_the_end : List ℕ
past_the_end = lines_text (codes "r 1" ∷ codes "end 0 1000" ∷ codes "r 5 18446744073709551615" ∷ codes "r 5" ∷ [])

-- more samples come than 64 bits count, and `clear` takes them away before the `end`
abbrev pub before_a_clear : List ℕ
before_a_clear = lines_text (codes "r 5 18446744073709551615" ∷ codes "r 5" ∷ codes "clear" ∷ codes "r 1" ∷ codes "end 0 1000" ∷ [])

-- the log of this input merges to a histogram of one sample, 1
abbrev pub MergesToOne : List ℕ → Type 0
MergesToOne input =
    (log merge : List (List ℕ)) (sigfig fewer : ℕ) (quantiles : List Ratio) (written text : List ℕ) (fault : Option Fault)
    → task_of log ≡ Some (Log sigfig) → task_of merge ≡ Some (Merge no_options fewer quantiles) → fewer ≤ sigfig
    → Outcome log input written None → Outcome merge written text fault
    → (fault ≡ None) × ((h : Plain) × IsReport h quantiles text × StandsFor h (1 ∷ []))
