-- What a task returns, by the result of its lines or its log.
use Rattle.hdr_tool.proofs.Common.{◌≡◌, ℕ, List, [], ◌∷◌, ◌++◌, length, true, false, Option, Some, None, Result, Ok, Err, refl, sym, ap, ◌∙◌, subst, arith, Appends, IsAtEnd, Ratio, Plain, empty_plain, AppendsFront, Fault, Run, run_command, lines_run, IsLogText, Outputs, at_end, as_reached, Cause, Resource, Output, Input, Misuse, cause_of, RunsAll, OnInput, Fails, LoggedFirst, Writes, ReadsTo, merge_fault, Command, Apply, End, command_of, number_lines, Task, Report, Log, Merge, input_run, result_err, Reported, outputs_of, MergeReported, Filter, IsMergeError, MergeError}
use Rattle.hdr_tool.specs.Program.{Interval}
use Rattle.hdr_tool.proofs.OutcomesRuns.{fails_on, appends_nothing, appends_both, some_input}
use Rattle.hdrhistogram.specs.declared.serialization.interval_log.merge.MergeError.TheVariants.{Creation, Parse, Base64, Decode, OutOfMemory}

-- ---- the lines of a report end no interval

command_quiet : (k : ℕ) (h : Plain) (c : Option Command) (onward : Plain → Run) → ((g : Plain) → (onward g).intervals ≡ []) → (run_command false k h c onward).intervals ≡ []
command_quiet k h None onward q = refl
command_quiet k h (Some (Apply call)) onward q = q _
command_quiet k h (Some (End start duration tag)) onward q = refl

quiet : (lines : List (ℕ × List ℕ)) (h : Plain) → (lines_run false h lines).intervals ≡ []
quiet [] h = refl
quiet ((k, []) ∷ lines) h = quiet lines h
quiet ((k, b ∷ line) ∷ lines) h = command_quiet k h (command_of (b ∷ line)) (λ g. lines_run false g lines) (λ g. quiet lines g)

front_none : (is js : List (Interval Plain)) → is ++ js ≡ [] → is ≡ []
front_none [] js e = refl
front_none (i ∷ is) js e = absurd (let f = e in cc)

no_text : (is : List (Interval Plain)) (text : List ℕ) → is ≡ [] → IsLogText is text → text ≡ []
no_text [] text e t = t
no_text (i ∷ is) text e t = absurd (let f = e in cc)

no_front : (o n : Option (List ℕ)) (t : List ℕ) → t ≡ [] → AppendsFront o n t → ⊥
no_front o n t e a = omega (arith, a.1, ap length e)

module _ (sigfig : ℕ) (quantiles : List Ratio) (input : List ℕ) (o n : Option (List ℕ)) where
  -- what a report's lines wrote is nothing
  abbrev run : Run
  run = input_run false sigfig input

  none : run.intervals ≡ []
  none = quiet (number_lines 1 (Some input)) (empty_plain 1 2 sigfig true)

  nothing : (text : List ℕ) → LoggedFirst run text → text ≡ []
  nothing text l = no_text l.0 text (front_none l.0 l.1 (sym l.2 ∙ none)) l.3

  failed : (ended : Result Plain Fault) (f : Fault) (text : List ℕ) → text ≡ [] → Some f ≡ result_err ended → Reported quantiles ended text (Some f)
  failed (Ok h) f text t e = absurd (let g = e in cc)
  failed (Err g) f text t e = (t, e)

  pub report_failed : (f : Fault) → RunsAll run o n (Err f) → Fails (at_end (Reported quantiles run.ended)) o n (cause_of f) f
  report_failed f a =
      fails_on (as_reached run) (at_end (Reported quantiles run.ended)) o o n [] f (cause_of f) (appends_nothing o) (λ text l. failed run.ended f text (no_text run.intervals text none l.0) l.1)
      nothing (λ text l g. absurd (no_front o n text (nothing text l) g)) a.0

  reads_by : (f : Fault) (m : Option (List ℕ)) (c : Cause) → Fails (as_reached run) o n c f → ReadsTo (λ _. Unit {0}) m c → ReadsTo IsAtEnd m c
  reads_by f m Resource a e = tt
  reads_by f m Output a e = absurd (no_front o n a.0 (nothing a.0 a.1) a.2)
  reads_by f m Input a e = e
  reads_by f m Misuse a e = tt

  pub report_reads : (f : Fault) (m : Option (List ℕ)) → RunsAll run o n (Err f) → ReadsTo (λ _. Unit {0}) m (cause_of f) → ReadsTo IsAtEnd m (cause_of f)
  report_reads f m a e = reads_by f m (cause_of f) a.0 e

  pub report_written : (h : Plain) (m : Option (List ℕ)) (r : Result (Unit {0}) Fault) → RunsAll run o n (Ok h) → Writes (at_end (Reported quantiles (Ok h))) n m r → Writes (at_end (Reported quantiles run.ended)) o m r
  report_written h m r ((text, l, t), e) w =
      let before : Appends o n [] = subst (λ x. Appends o n x) (no_text run.intervals text none l.0) t in
      let W : Result Plain Fault → Type 0 = λ x. Writes (at_end (Reported quantiles x)) o m r in subst W (sym e) (later (at_end (Reported quantiles (Ok h))) m before r w)
    where
      later : (outputs : Outputs) (m : Option (List ℕ)) → Appends o n [] → (r : Result (Unit {0}) Fault) → Writes outputs n m r → Writes outputs o m r
      later outputs m a (Ok u) x = (x.0, x.1, appends_both o n m [] x.0 a x.2)
      later outputs m a (Err f) x = fails_on outputs outputs o n m [] f (cause_of f) a (λ text w. w) (λ text w. w) (λ text w _. w) x

-- not all of the input is read, or memory runs out before; nothing may be written, whatever the task
nothing_early : (task : Task) (input : List ℕ) → (outputs_of task input).early []
nothing_early (Report sigfig quantiles) input = refl
nothing_early (Log sigfig) input = ([], (input_run true sigfig input).intervals, refl, refl)
nothing_early (Merge options sigfig quantiles) input = refl

pub unread : (task : Task) (i o : Option (List ℕ)) (f : Fault) → cause_of f ≡ Resource → OnInput i (λ input. Fails (outputs_of task input) o o (cause_of f) f)
unread task i o f e =
    let x = some_input i in
    let none : Fails (outputs_of task x.0) o o Resource f = ([], nothing_early task x.0, appends_nothing o) in (x.0, x.1, rw e none)

pub merge_refused : (greatest : ℕ) (filter : Filter) (sigfig : ℕ) (quantiles : List Ratio) (input : List ℕ) (o : Option (List ℕ)) (e : MergeError) → IsMergeError greatest filter sigfig input e
    → Writes {A = Unit {0}} (at_end (MergeReported greatest filter sigfig quantiles input)) o o (Err (merge_fault e))
merge_refused greatest filter sigfig quantiles input o (Creation e) r = ([], refl, appends_nothing o)
merge_refused greatest filter sigfig quantiles input o (Parse at) r = ([], (Err (Parse at), r.1, (refl, refl)), appends_nothing o)
merge_refused greatest filter sigfig quantiles input o (Base64 k) r = ([], (Err (Base64 k), r.1, (refl, refl)), appends_nothing o)
merge_refused greatest filter sigfig quantiles input o (Decode k e) r = ([], (Err (Decode k e), r.1, (refl, refl)), appends_nothing o)
merge_refused greatest filter sigfig quantiles input o OutOfMemory r = ([], refl, appends_nothing o)
