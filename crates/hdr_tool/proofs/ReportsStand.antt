-- A report of lines is the report of the samples that they record.
use Rattle.hdr_tool.proofs.Common.{◌≡◌, ℕ, ◌-◌, ◌^◌, ◌<◌, true, false, List, [], ◌∷◌, ◌++◌, Option, Some, None, IfSome, MatchOption, Result, Ok, refl, sym, ap₂, ◌∙◌, subst, length, codes, flat_map, AllByRecursion, enumerate_from, Resolution, Ratio, Plain, empty_plain, IsPlain, resolution, after_call, StandsWhereFits, State, Fault, Usage, parts, Task, Command, Apply, End, command_of, IsReport, Reported, outputs_of, quantile_line, run_command, lines_run}
use Rattle.std.specs.Fmt.{decimal}
use Rattle.hdr_base.specs.Classes.{resolution_of}
use Rattle.hdr_model.specs.Samples.{StandsFor, Fits}
use Rattle.hdr_model.specs.Quantiles.{ranked_sample, IsTopNear, value_at_quantile}
use Rattle.hdr_tool.specs.Program.{Outcome}
use Rattle.hdr_tool.specs.Reports.{AfterCallLine, LinesTo, LinesRanked, ReportsSamples, ReportStands}
use Rattle.hdr_tool.proofs.ArgumentsFigures.{HasDen, AreFigures, HasFigures, task_figures, NewIsPlain, empty_is_plain, empty_resolution, empty_low, empty_sigfig, empty_high}
use Rattle.hdr_tool.proofs.CommandsParsed.{IsLineCommand, call_of_line, command_fine}
use Rattle.hdr_tool.proofs.LogMergesWritten.{HaveSameBounds, same_through, CallsStand}

-- ---- the histogram after the lines

record EndsAs (h : Plain) (ended : Result Plain Fault) (t : State) : Type 0 where
  last : Plain
  is : ended ≡ Ok last
  plain : IsPlain (2 ^ 64 - 1) last
  stands : StandsWhereFits (2 ^ 64 - 1) last t
  kept : HaveSameBounds last h

command_ends : (k : ℕ) (c : Option Command) (h : Plain) (s t : State) (lines : List (ℕ × List ℕ)) → CallsStand → IsPlain (2 ^ 64 - 1) h → StandsWhereFits (2 ^ 64 - 1) h s → IfSome c IsLineCommand → AfterCallLine (resolution h) s c (λ r. LinesTo (resolution h) r lines t)
    → ((g : Plain) (r : State) → IsPlain (2 ^ 64 - 1) g → StandsWhereFits (2 ^ 64 - 1) g r → LinesTo (resolution g) r lines t → EndsAs g (lines_run false g lines).ended t)
    → EndsAs h (run_command false k h c (λ g. lines_run false g lines)).ended t
command_ends k None h s t lines calls p st fine a rest = absurd a
command_ends k (Some (End start duration tag)) h s t lines calls p st fine a rest = absurd a
command_ends k (Some (Apply call)) h s t lines calls p st fine a rest =
    let next = after_call (2 ^ 64 - 1) (λ (n : ℕ). n) call h in
    let is_call = call_of_line call fine in
    let same : resolution next ≡ resolution h = calls.classes (2 ^ 64 - 1) h call is_call in
    let W : Resolution → Type 0 = λ g. LinesTo g a.0 lines t in
    let e = rest next a.0 (calls.plain (2 ^ 64 - 1) h call is_call p) (calls.wherever (2 ^ 64 - 1) h call s a.0 is_call p st a.1) (subst W (sym same) a.2) in
    record { last = e.last; is = e.is; plain = e.plain; stands = e.stands; kept = same_through e.last next h e.kept (calls.same_bounds h call) }

lines_end : CallsStand → (h : Plain) (s t : State) (lines : List (ℕ × List ℕ)) → IsPlain (2 ^ 64 - 1) h → StandsWhereFits (2 ^ 64 - 1) h s → LinesTo (resolution h) s lines t → EndsAs h (lines_run false h lines).ended t
lines_end calls h s t [] p st w = record { last = h; is = refl; plain = p; stands = subst (λ (x : State). StandsWhereFits (2 ^ 64 - 1) h x) (sym w) st; kept = (refl, refl, refl) }
lines_end calls h s t ((k, []) ∷ lines) p st w = lines_end calls h s t lines p st w
lines_end calls h s t ((k, b ∷ line) ∷ lines) p st w = command_ends k (command_of (b ∷ line)) h s t lines calls p st (command_fine (b ∷ line)) w (λ g r q u v. lines_end calls g r t lines q u v)

-- ---- the report

-- the core's law on the value at a quantile
abbrev pub IsRanked : Type 0
IsRanked = (greatest : ℕ) (h : Plain) (q : Ratio) (S : List ℕ) → IsPlain greatest h → 0 < q.den → StandsFor h S → 0 < length S → 0 < q.num → IsTopNear h (ranked_sample q S) (value_at_quantile h q)

lines_ranked : IsRanked → (h : Plain) (S : List ℕ) (qs : List Ratio) → IsPlain (2 ^ 64 - 1) h → StandsFor h S → AllByRecursion HasDen qs → LinesRanked h S qs (flat_map (quantile_line h) qs)
lines_ranked law h S [] plain stands dens = refl
lines_ranked law h S (q ∷ qs) plain stands dens =
    (value_at_quantile h q, flat_map (quantile_line h) qs, refl, (λ some above. law (2 ^ 64 - 1) h q S plain dens.0 stands some above), lines_ranked law h S qs plain stands dens.1)

reports : IsRanked → (h : Plain) (S : List ℕ) (sigfig : ℕ) (quantiles : List Ratio) (text : List ℕ) → IsPlain (2 ^ 64 - 1) h → StandsFor h S → h.low ≡ 1 → h.sigfig ≡ sigfig → AllByRecursion HasDen quantiles → IsReport h quantiles text → ReportsSamples sigfig S quantiles text
reports law h S sigfig quantiles text plain stands low digits dens (field, bytes, is) =
    record {
      histogram = h;
      low = low;
      sigfig = digits;
      stands = stands;
      lines = flat_map (quantile_line h) quantiles;
      ranked = lines_ranked law h S quantiles plain stands dens;
      field = field;
      bytes = bytes;
      text_is = subst (λ n. text ≡ codes "len " ++ decimal n ++ 10 ∷ [] ++ flat_map (quantile_line h) quantiles ++ codes "v2 " ++ field ++ 10 ∷ []) stands.total is;
    }

pub report_stands : NewIsPlain → CallsStand → ((n : ℕ) → StandsFor (empty_plain 1 2 n true) []) → IsRanked → ReportStands
unfolding Outcome
report_stands new calls made law report sigfig quantiles input text fault t task to fits out =
    let h = empty_plain 1 2 sigfig true in
    let start : State = record { samples = []; high = 2 } in
    let lines = enumerate_from 1 (parts 10 input) in
    let figures : AreFigures (sigfig, quantiles) = subst (λ o. IfSome o HasFigures) task (task_figures report) in
    let O : Option Task → Type 0 = λ o. MatchOption o ((text ≡ []) × (fault ≡ Some Usage)) (λ task. (outputs_of task input).whole text fault) in
    let reported : Reported quantiles (lines_run false h lines).ended text fault = subst O task out in
    let empty : StandsWhereFits (2 ^ 64 - 1) h start = ((λ fits. made sigfig), empty_high sigfig) in
    let e = lines_end calls h start t lines (empty_is_plain new (2 ^ 64 - 1) sigfig figures.0) empty (subst (λ (g : Resolution). LinesTo g start lines t) (sym (empty_resolution sigfig)) to) in
    let r : Reported quantiles (Ok e.last) text fault = subst (λ (x : Result Plain Fault). Reported quantiles x text fault) e.is reported in
    let low : e.last.low ≡ 1 = e.kept.0 ∙ empty_low sigfig in
    let digits : e.last.sigfig ≡ sigfig = e.kept.1 ∙ empty_sigfig sigfig in
    let classes : resolution e.last ≡ resolution_of 1 sigfig = ap₂ resolution_of low digits in
    let stands : StandsFor e.last t.samples = e.stands.0 (subst (λ (g : Resolution). Fits (2 ^ 64 - 1) g t.samples) (sym classes) fits) in
    (r.1, reports law e.last t.samples sigfig quantiles text e.plain stands low digits figures.1 r.0)
