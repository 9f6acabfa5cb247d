-- Arguments and an input have an outcome, whatever they are.
use Rattle.hdr_tool.proofs.Common.{◌≡◌, ℕ, ◌+◌, ◌-◌, ◌*◌, ◌^◌, ◌<◌, ◌≤◌, Bool, true, false, cond, List, [], ◌∷◌, ◌++◌, Option, Some, None, IfSome, Result, Ok, Err, refl, arith, lit<, length, slice_index, codes, flat_map, AllByRecursion, All, Ratio, Plain, IsPlain, empty_plain, max_of, Reset, TimedInterval, timed_intervals, Fault, base64_of, base64_bytes, piece_text, IsPiece, interval_piece, IsIntervalText, after_reset, IsV2, written_counts, Command, Apply, End, command_of, Reported, IsReport, quantile_line, Run, prepend, ended_by, run_command, lines_run, input_run, IsLogText, Logged, result_err, result_map_both, MatchOption, Usage, Task, Report, Log, Merge, task_of, outputs_of, number_lines, greatest_into, filter_of, merge_fault, MergeReported, Filter, is_chosen, Merging, new_merging, past_interval, with_interval, BytesMerge, FieldMerges, IntervalMerges, ItemMerges, MergesOn, ItemsMerge, IsReadAs, ReadsV2, DeserializeError, MergeError}
use Rattle.std.proofs.Common.{length-take}
use Rattle.std.specs.Fmt.{decimal}
use Rattle.std.specs.Prelude.{IfOk}
use Rattle.std.proofs.lemmas.List.Elements.{All-take}
use Rattle.hex.specs.Hex.{encode_lower}
use Rattle.hdr_base.specs.Classes.{most_bins}
use Rattle.hdr_log.specs.Grammar.{Interval}
use Rattle.hdr_log.specs.Pieces.{IsField}
use Rattle.hdr_log.specs.Texts.{AreTags}
use Rattle.hdr_model.specs.Merging.{after_add, OfEachTwo}
use Rattle.hdr_model.specs.Plain.{OfEachPlain}
use Rattle.hdrhistogram.specs.Payload.{IsPayload}
use Rattle.hdrhistogram.specs.V2.{header, written_bins}
use Rattle.hdrhistogram.specs.declared.serialization.interval_log.merge.MergeError.TheVariants.{Parse, Base64, Decode}
use Rattle.hdr_tool.specs.Program.{OutcomeExists, Outcome, IsBytesField, has_too_great_count}
use Rattle.hdr_tool.specs.Program as run
use Rattle.hdr_tool.proofs.ArgumentsFigures.{HasFigures, task_figures, some_greatest, NewIsPlain, empty_is_plain}
use Rattle.hdr_tool.proofs.CommandsParsed.{IsLineCommand, call_of_line, command_fine}
use Rattle.hdr_tool.proofs.LogMergesWritten.{CallsStand}
use Rattle.hdr_tool.proofs.OutcomesCounts.{small_counts}

-- what the library's laws say: of bytes that are written, of histograms, and of bytes that are read
pub record Laws : Type 0 where
  pub calls : CallsStand
  pub new : NewIsPlain
  pub added : OfEachTwo (λ greatest h s. IsPlain greatest (after_add greatest h s))
  pub bins : OfEachPlain (λ greatest h. length h.counts ≤ most_bins)
  pub max : OfEachPlain (λ greatest h. max_of h < 2 ^ 64)
  pub payload : (counts : List ℕ) → length counts < 2 ^ 63 → All (λ c. c < 2 ^ 63) counts → (text : List ℕ) × IsPayload counts text
  pub bytes : (h : Plain) (text : List ℕ) → IsV2 h text → (i : ℕ) → slice_index text i < 256
  pub field : (bytes : List ℕ) → IsField (base64_of bytes)
  pub decoded : (field bytes : List ℕ) → base64_bytes field ≡ Some bytes → (i : ℕ) → slice_index bytes i < 256
  pub read : (greatest : ℕ) (text : List ℕ) → (found : Result (Plain × ℕ) DeserializeError) × ReadsV2 greatest text found
  pub read_plain : (greatest taken : ℕ) (text : List ℕ) (h : Plain) → ((i : ℕ) → slice_index text i < 256) → IsReadAs greatest text h taken → IsPlain greatest h

-- ---- the bytes of a histogram

bytes_made : Laws → (greatest : ℕ) (h : Plain) → IsPlain greatest h → has_too_great_count h ≡ false → (bytes : List ℕ) × IsV2 h bytes
bytes_made law greatest h plain none =
    let few : length (written_counts h) < 2 ^ 63 = omega (arith, length-take (written_bins h) h.counts, law.bins greatest h plain, lit< {m = 6291456} {n = 9223372036854775808} tt) in
    let p = law.payload (written_counts h) few (All-take (λ n. n < 2 ^ 63) (written_bins h) h.counts (small_counts h none)) in
    (header h (length p.0) ++ p.0, record { payload = p.0; counts = p.1; text = refl })

-- ---- the report of a histogram

field_by : Laws → (greatest : ℕ) (h : Plain) → IsPlain greatest h → (great : Bool) → has_too_great_count h ≡ great → (field : List ℕ) × IsBytesField h field
field_by law greatest h plain true e = (codes "none", rw e refl)
field_by law greatest h plain false e = let b = bytes_made law greatest h plain e in (encode_lower b.0, rw e (b.0, b.1, refl))

report_made : Laws → (greatest : ℕ) (h : Plain) (quantiles : List Ratio) → IsPlain greatest h → (text : List ℕ) × IsReport h quantiles text
report_made law greatest h quantiles plain =
    let f = field_by law greatest h plain (has_too_great_count h) refl in
    (codes "len " ++ decimal h.total ++ 10 ∷ [] ++ flat_map (quantile_line h) quantiles ++ codes "v2 " ++ f.0 ++ 10 ∷ [], (f.0, f.1, refl))

reported_made : Laws → (greatest : ℕ) (ended : Result Plain Fault) (quantiles : List Ratio) → IfOk ended (IsPlain greatest) → (text : List ℕ) × (fault : Option Fault) × Reported quantiles ended text fault
reported_made law greatest (Ok h) quantiles plain = let r = report_made law greatest h quantiles plain in (r.0, None, (r.1, refl))
reported_made law greatest (Err f) quantiles plain = ([], Some f, (refl, refl))

-- ---- the intervals of lines

-- an interval whose line exists
record CanBeWritten (e : run.Interval Plain) : Type 0 where
  plain : IsPlain (2 ^ 64 - 1) e.holds
  none : has_too_great_count e.holds ≡ false
  start : e.start < 2 ^ 64
  duration : e.duration < 2 ^ 64
  tag : AreTags e.tag

record IsFine (run : Run) : Type 0 where
  ended : IfOk run.ended (IsPlain (2 ^ 64 - 1))
  intervals : AllByRecursion CanBeWritten run.intervals

stopped : (f : Fault) → IsFine (ended_by (Err f))
stopped f = record { ended = tt; intervals = tt }

end_fine : (great : Bool) (h : Plain) (start duration : ℕ) (tag : Option (List ℕ)) (f : Fault) (onward : Run) → has_too_great_count h ≡ great → IsPlain (2 ^ 64 - 1) h → IsLineCommand (End start duration tag) → IsFine onward
    → IsFine (cond great (ended_by (Err f)) (prepend (record { holds = h; tag = tag; start = start; duration = duration } ∷ []) onward))
end_fine true h start duration tag f onward e p w fine = stopped f
end_fine false h start duration tag f onward e p w fine =
    record { ended = fine.ended; intervals = (record { plain = p; none = e; start = w.0; duration = w.1; tag = w.2 }, fine.intervals) }

command_runs : Laws → (is_log : Bool) (k : ℕ) (h : Plain) (c : Option Command) (onward : Plain → Run) → IsPlain (2 ^ 64 - 1) h → IfSome c IsLineCommand → ((g : Plain) → IsPlain (2 ^ 64 - 1) g → IsFine (onward g)) → IsFine (run_command is_log k h c onward)
command_runs law true k h None onward p fine on = stopped _
command_runs law false k h None onward p fine on = stopped _
command_runs law true k h (Some (Apply call)) onward p fine on = on _ (law.calls.plain (2 ^ 64 - 1) h call (call_of_line call fine) p)
command_runs law false k h (Some (Apply call)) onward p fine on = on _ (law.calls.plain (2 ^ 64 - 1) h call (call_of_line call fine) p)
command_runs law true k h (Some (End start duration tag)) onward p fine on =
    end_fine (has_too_great_count h) h start duration tag _ (onward (after_reset h)) refl p fine (on (after_reset h) (law.calls.plain (2 ^ 64 - 1) h Reset tt p))
command_runs law false k h (Some (End start duration tag)) onward p fine on = stopped _

lines_fine : Laws → (is_log : Bool) (h : Plain) (lines : List (ℕ × List ℕ)) → IsPlain (2 ^ 64 - 1) h → IsFine (lines_run is_log h lines)
lines_fine law is_log h [] p = record { ended = p; intervals = tt }
lines_fine law is_log h ((k, []) ∷ lines) p = lines_fine law is_log h lines p
lines_fine law is_log h ((k, b ∷ line) ∷ lines) p = command_runs law is_log k h (command_of (b ∷ line)) (λ g. lines_run is_log g lines) p (command_fine (b ∷ line)) (λ g q. lines_fine law is_log g lines q)

input_fine : Laws → (is_log : Bool) (n : ℕ) (input : List ℕ) → n ≤ 5 → IsFine (input_run is_log n input)
input_fine law is_log n input few = lines_fine law is_log (empty_plain 1 2 n true) (number_lines 1 (Some input)) (empty_is_plain law.new (2 ^ 64 - 1) n few)

interval_made : Laws → (e : run.Interval Plain) → CanBeWritten e → (line : List ℕ) × IsIntervalText IsV2 e.holds e.tag (e.start * 1_000_000) (e.duration * 1_000_000) 1 line
interval_made law e can =
    let b = bytes_made law (2 ^ 64 - 1) e.holds can.plain can.none in
    let piece = interval_piece e.holds e.tag (e.start * 1_000_000) (e.duration * 1_000_000) 1 b.0 in
    let is : IsPiece piece = (can.tag, omega (arith, can.start), omega (arith, can.duration), omega (arith, law.max (2 ^ 64 - 1) e.holds can.plain), law.field b.0) in
    (piece_text piece, (b.0, b.1, is, refl, law.bytes e.holds b.0 b.1))

log_made : Laws → (es : List (run.Interval Plain)) → AllByRecursion CanBeWritten es → (text : List ℕ) × IsLogText es text
log_made law [] can = ([], refl)
log_made law (e ∷ es) can =
    let one = interval_made law e can.0 in
    let more = log_made law es can.1 in
    (one.0 ++ more.0, (one.0, more.0, one.1, more.1, refl))

logged_made : Laws → (run : Run) → IsFine run → (text : List ℕ) × (fault : Option Fault) × Logged run text fault
logged_made law run fine = let l = log_made law run.intervals fine.intervals in (l.0, result_err run.ended, (l.1, refl))

-- ---- merges

abbrev Keeps : ℕ → Result Merging MergeError → Type 0
Keeps greatest r = IfOk r (λ m. IsPlain greatest m.histogram)

-- a step, and what it leaves
record Step (greatest : ℕ) (Merges : Result Merging MergeError → Type 0) : Type 0 where
  result : Result Merging MergeError
  merges : Merges result
  keeps : Keeps greatest result

bytes_step : Laws → (greatest : ℕ) (m : Merging) → 1 ≤ greatest → IsPlain greatest m.histogram → (found : Result (Plain × ℕ) DeserializeError) → IfOk found (λ f. IsPlain (2 ^ 64 - 1) f.0) → Step greatest (BytesMerge greatest m found)
bytes_step law greatest m one plain (Ok found) read = record { result = Ok (with_interval greatest m found.0); merges = refl; keeps = law.added greatest (2 ^ 64 - 1) m.histogram found.0 one plain read }
bytes_step law greatest m one plain (Err e) read = record { result = Err (Decode (m.intervals + 1) e); merges = refl; keeps = tt }

field_step : Laws → (greatest : ℕ) (m : Merging) → 1 ≤ greatest → IsPlain greatest m.histogram → (field : List ℕ) (o : Option (List ℕ)) → base64_bytes field ≡ o → Step greatest (FieldMerges greatest m o)
field_step law greatest m one plain field None e = record { result = Err (Base64 (m.intervals + 1)); merges = refl; keeps = tt }
field_step law greatest m one plain field (Some bytes) e =
    let read = law.read (2 ^ 64 - 1) bytes in
    let step = bytes_step law greatest m one plain read.0 (found_plain read.0 read.1) in
    record { result = step.result; merges = (read.0, read.1, step.merges); keeps = step.keeps }
  where
    found_plain : (found : Result (Plain × ℕ) DeserializeError) → ReadsV2 (2 ^ 64 - 1) bytes found → IfOk found (λ f. IsPlain (2 ^ 64 - 1) f.0)
    found_plain (Ok f) read = law.read_plain (2 ^ 64 - 1) f.1 bytes f.0 (law.decoded field bytes e) read
    found_plain (Err f) read = tt

interval_step : Laws → (greatest : ℕ) (m : Merging) → 1 ≤ greatest → IsPlain greatest m.histogram → (b : Bool) (interval : Interval) → Step greatest (IntervalMerges greatest m b interval)
interval_step law greatest m one plain true interval = field_step law greatest m one plain interval.field (base64_bytes interval.field) refl
interval_step law greatest m one plain false interval = record { result = Ok (past_interval m); merges = refl; keeps = plain }

item_step : Laws → (greatest : ℕ) (filter : Filter) (m : Merging) → 1 ≤ greatest → IsPlain greatest m.histogram → (item : Result TimedInterval ℕ) → Step greatest (ItemMerges greatest filter m item)
item_step law greatest filter m one plain (Ok i) = interval_step law greatest m one plain (is_chosen filter i.interval.tag i.time) i.interval
item_step law greatest filter m one plain (Err at) = record { result = Err (Parse at); merges = refl; keeps = tt }

merges_on : (greatest : ℕ) (filter : Filter) (items : List (Result TimedInterval ℕ)) (step : Result Merging MergeError) → Keeps greatest step → ((m : Merging) → IsPlain greatest m.histogram → Step greatest (ItemsMerge greatest filter items m))
    → Step greatest (MergesOn (ItemsMerge greatest filter items) step)
merges_on greatest filter items (Ok m) keeps rest = rest m keeps
merges_on greatest filter items (Err e) keeps rest = record { result = Err e; merges = refl; keeps = tt }

items_merge : Laws → (greatest : ℕ) (filter : Filter) (items : List (Result TimedInterval ℕ)) (m : Merging) → 1 ≤ greatest → IsPlain greatest m.histogram → Step greatest (ItemsMerge greatest filter items m)
items_merge law greatest filter [] m one plain = record { result = Ok m; merges = refl; keeps = plain }
items_merge law greatest filter (item ∷ items) m one plain =
    let step = item_step law greatest filter m one plain item in
    let on = merges_on greatest filter items step.result step.keeps (λ n kept. items_merge law greatest filter items n one kept) in
    record { result = on.result; merges = (step.result, step.merges, on.merges); keeps = on.keeps }

reported_plain : (greatest : ℕ) (r : Result Merging MergeError) → Keeps greatest r → IfOk (result_map_both (λ (m : Merging). m.histogram) merge_fault r) (IsPlain greatest)
reported_plain greatest (Ok m) keeps = keeps
reported_plain greatest (Err e) keeps = tt

merge_ends : Laws → (greatest : ℕ) (filter : Filter) (n : ℕ) (quantiles : List Ratio) (input : List ℕ) → 1 ≤ greatest → IsPlain greatest (empty_plain 1 2 n true) → (text : List ℕ) × (fault : Option Fault) × MergeReported greatest filter n quantiles input text fault
merge_ends law greatest filter n quantiles input one plain =
    let step = items_merge law greatest filter (timed_intervals input) (new_merging n) one plain in
    let r = reported_made law greatest (result_map_both (λ (m : Merging). m.histogram) merge_fault step.result) quantiles (reported_plain greatest step.result step.keeps) in
    (r.0, r.1, (step.result, step.merges, r.2))

-- ---- outcomes

-- a task, or wrong arguments, has an outcome
abbrev Ends : Option Task → List ℕ → Type 0
Ends o input = (text : List ℕ) × (fault : Option Fault) × MatchOption o ((text ≡ []) × (fault ≡ Some Usage)) (λ task. (outputs_of task input).whole text fault)

task_ends : Laws → (o : Option Task) (input : List ℕ) → IfSome o HasFigures → Ends o input
task_ends law None input has = ([], Some Usage, (refl, refl))
task_ends law (Some (Report n quantiles)) input has = let run = input_run false n input in reported_made law (2 ^ 64 - 1) run.ended quantiles (input_fine law false n input has.0).ended
task_ends law (Some (Log n)) input few = logged_made law (input_run true n input) (input_fine law true n input few)
task_ends law (Some (Merge options n quantiles)) input has =
    let greatest = greatest_into options.into in
    merge_ends law greatest (filter_of options) n quantiles input (some_greatest options.into) (empty_is_plain law.new greatest n has.0)

pub outcome_exists : Laws → OutcomeExists
unfolding Outcome
outcome_exists law arguments input = task_ends law (task_of arguments) input (task_figures arguments)
