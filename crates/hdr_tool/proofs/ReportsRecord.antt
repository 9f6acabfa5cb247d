-- The lines of a report without a `Fault` record samples.
use Rattle.hdr_tool.proofs.Common.{◌≡◌, ℕ, List, [], ◌∷◌, ◌++◌, true, false, Option, Some, None, IfSome, MatchOption, Result, Ok, Err, refl, subst, replicate, enumerate_from, Resolution, Ratio, Plain, State, CallTo, Call, Record, Clamp, Correct, Clear, Reset, Fault, Usage, parts, Task, Command, Apply, End, command_of, Reported, outputs_of, run_command, lines_run, Run}
use Rattle.hdr_base.specs.Classes.{resolution_of, reach_of}
use Rattle.hdr_core.specs.declared.call.Call.TheVariants.{Add, AddCorrect}
use Rattle.hdr_model.specs.Correction.{missing, each_times}
use Rattle.hdr_model.specs.Plain.{empty_plain}
use Rattle.hdr_model.specs.Recording.{samples_of, clamp, high_with}
use Rattle.hdr_tool.specs.Program.{Outcome}
use Rattle.hdr_tool.specs.Reports.{AfterCallLine, LinesTo, ReportRecords}
use Rattle.hdr_tool.proofs.LogMergesWritten.{no_error}
use Rattle.hdr_tool.proofs.CommandsParsed.{IsLineCommand, command_fine}

recorded : (g : Resolution) (s : State) (call : Call ℕ) → IsLineCommand (Apply call) → (r : State) × CallTo (λ n. n) g call s r
recorded g s (Record v n) w = (record { samples = s.samples ++ replicate n v; high = high_with g s.high v (reach_of g v) }, (refl, refl))
recorded g s (Clamp v n) w = (record { samples = s.samples ++ replicate n (clamp g s.high v); high = s.high }, (refl, refl))
recorded g s (Correct v n i) w = (record { samples = s.samples ++ samples_of (each_times n (v ∷ missing v i)); high = high_with g s.high v (reach_of g v) }, (refl, refl))
recorded g s Clear w = (record { samples = []; high = s.high }, (refl, refl))
recorded g s Reset w = (record { samples = []; high = s.high }, (refl, refl))
recorded g s (Add source) w = absurd w
recorded g s (AddCorrect source i) w = absurd w

command_recorded : (g : Resolution) (s : State) (k : ℕ) (h last : Plain) (c : Option Command) (onward : Plain → Run) (Onward : State → State → Type 0) → (run_command false k h c onward).ended ≡ Ok last → IfSome c IsLineCommand
    → ((n : Plain) (r : State) → (onward n).ended ≡ Ok last → (t : State) × Onward r t) → (t : State) × AfterCallLine g s c (λ r. Onward r t)
command_recorded g s k h last None onward Onward e w on = no_error _ last e
command_recorded g s k h last (Some (End start duration tag)) onward Onward e w on = no_error _ last e
command_recorded g s k h last (Some (Apply call)) onward Onward e w on =
    let r = recorded g s call w in
    let t = on _ r.0 e in
    (t.0, (r.0, r.1, t.1))

lines_recorded : (g : Resolution) (s : State) (h last : Plain) (lines : List (ℕ × List ℕ)) → (lines_run false h lines).ended ≡ Ok last → (t : State) × LinesTo g s lines t
lines_recorded g s h last [] e = (s, refl)
lines_recorded g s h last ((k, []) ∷ lines) e = lines_recorded g s h last lines e
lines_recorded g s h last ((k, b ∷ line) ∷ lines) e =
    command_recorded g s k h last (command_of (b ∷ line)) (λ n. lines_run false n lines) (λ r t. LinesTo g r lines t) e (command_fine (b ∷ line)) (λ n r f. lines_recorded g r n last lines f)

without_fault : (ended : Result Plain Fault) (quantiles : List Ratio) (text : List ℕ) → Reported quantiles ended text None → (last : Plain) × (ended ≡ Ok last)
without_fault (Ok h) quantiles text r = (h, refl)
without_fault (Err f) quantiles text r = absurd (let e = r.1 in cc)

pub report_records : ReportRecords
unfolding Outcome
report_records report sigfig quantiles input text task out =
    let h = empty_plain 1 2 sigfig true in
    let lines = enumerate_from 1 (parts 10 input) in
    let O : Option Task → Type 0 = λ o. MatchOption o ((text ≡ []) × (None ≡ Some Usage)) (λ t. (outputs_of t input).whole text None) in
    let reported : Reported quantiles (lines_run false h lines).ended text None = subst O task out in
    let last = without_fault (lines_run false h lines).ended quantiles text reported in
    lines_recorded (resolution_of 1 sigfig) (record { samples = []; high = 2 }) h last.0 lines last.1
