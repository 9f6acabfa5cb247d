-- The histograms of a log that `log` wrote: what they stand for, and the result of merging them.
use Rattle.hdr_tool.proofs.Common.{◌≡◌, ℕ, ◌-◌, ◌^◌, List, [], ◌∷◌, Option, Some, None, IfSome, refl, sym, subst, ◌+◌, ◌*◌, ◌<◌, Bool, true, false, cond, arith, length, slice_index, ◌++◌, MatchOption, Result, Ok, Err, map, ap, ◌∙◌, Resolution, Plain, IsPlain, resolution, empty_plain, max_of, after_reset, after_call, CallTo, IsCallOf, StandsWhereFits, State, Call, Reset, Command, Apply, End, command_of, at_command, ends_of, AfterCommand, EndsWith, IsEnd, AllZip, chosen_of, LogThenMerge, AllByRecursion, enumerate_from, Ratio, after_adds, Entry, Span, reading, TimedInterval, timed, thousandths_text, to_thousandths, max_thousandths, base64_of, base64_bytes, Piece, IsPiece, piece_text, text_of, entries_of_piece, is_read, IsV2, interval_piece, IsIntervalText, histogram_contents, v2_at, IsReadAs, IsReadBack, ReadsV2, Filter, is_chosen, Merging, new_merging, past_interval, with_interval, BytesMerge, FieldMerges, IntervalMerges, MergesOn, ItemsMerge, DeserializeError, MergeError, Fault, Usage, parts, Run, ended_by, prepend, run_command, lines_run, IsLogText, has_too_great_count, IsReport, Task, greatest_into, filter_of, result_err, result_map_both, merge_fault, Reported, MergeReported, outputs_of, append-nil}
use Rattle.hdr_tool.proofs.CommandsParsed.{IsLineCommand, call_of_line, command_fine}
use Rattle.std.specs.List.{cons_option, flat_map}
use Rattle.hdr_log.specs.Grammar.{Interval}
use Rattle.hdrhistogram.specs.Defects.{Defect}
use Rattle.hdr_tool.specs.Program.{Outcome}
use Rattle.hdr_tool.specs.Program as run

-- the bounds that no call changes
abbrev pub HaveSameBounds : Plain → Plain → Type 0
HaveSameBounds h k = (h.low ≡ k.low) × (h.sigfig ≡ k.sigfig) × (h.auto_resize ≡ k.auto_resize)

pub same_through : (h k j : Plain) → HaveSameBounds h k → HaveSameBounds k j → HaveSameBounds h j
same_through h k j a b = (a.0 ∙ b.0, a.1 ∙ b.1, a.2 ∙ b.2)

-- what a call makes of a histogram, by the library's law
pub record CallsStand : Type 0 where
  pub same_bounds : (h : Plain) (call : Call ℕ) → HaveSameBounds (after_call (2 ^ 64 - 1) (λ n. n) call h) h
  pub plain : (most : ℕ) (h : Plain) (call : Call ℕ) → IsCallOf most call → IsPlain (2 ^ 64 - 1) h → IsPlain (2 ^ 64 - 1) (after_call (2 ^ 64 - 1) (λ n. n) call h)
  pub classes : (most : ℕ) (h : Plain) (call : Call ℕ) → IsCallOf most call → resolution (after_call (2 ^ 64 - 1) (λ n. n) call h) ≡ resolution h
  pub wherever : (most : ℕ) (h : Plain) (call : Call ℕ) (s t : State) → IsCallOf most call → IsPlain (2 ^ 64 - 1) h → StandsWhereFits (2 ^ 64 - 1) h s
      → CallTo (λ n. n) (resolution h) call s t → StandsWhereFits (2 ^ 64 - 1) (after_call (2 ^ 64 - 1) (λ n. n) call h) t

command_stands : (c : Option Command) (h : Plain) (s : State) (lines : List (ℕ × List ℕ)) (Ls : List (run.Interval (List ℕ))) → CallsStand → IsPlain (2 ^ 64 - 1) h → StandsWhereFits (2 ^ 64 - 1) h s → IfSome c IsLineCommand → AfterCommand (resolution h) s c (λ t rest. EndsWith (resolution h) t lines rest) Ls
    → ((g : Plain) (t : State) (rest : List (run.Interval (List ℕ))) → IsPlain (2 ^ 64 - 1) g → StandsWhereFits (2 ^ 64 - 1) g t → EndsWith (resolution g) t lines rest → AllZip (IsEnd (resolution g)) (ends_of g lines) rest)
    → AllZip (IsEnd (resolution h)) (at_command h c (λ g. ends_of g lines)) Ls
command_stands None h s lines Ls calls p st fine a tail = let A : List (run.Interval (List ℕ)) → Type 0 = λ x. AllZip (IsEnd (resolution h)) [] x in subst A (sym a) tt
command_stands (Some (Apply call)) h s lines Ls calls p st fine a tail =
    let next = after_call (2 ^ 64 - 1) (λ (n : ℕ). n) call h in
    let is_call = call_of_line call fine in
    let same : resolution next ≡ resolution h = calls.classes (2 ^ 64 - 1) h call is_call in
    let W : Resolution → Type 0 = λ g. EndsWith g a.0 lines Ls in
    let E : Resolution → Type 0 = λ g. AllZip (IsEnd g) (ends_of next lines) Ls in
    subst E same (tail next a.0 Ls (calls.plain (2 ^ 64 - 1) h call is_call p) (calls.wherever (2 ^ 64 - 1) h call s a.0 is_call p st a.1) (subst W (sym same) a.2))
command_stands (Some (End start duration tag)) h s lines Ls calls p st fine a tail =
    let t : State = record { samples = []; high = s.high } in
    let same : resolution (after_reset h) ≡ resolution h = calls.classes (2 ^ 64 - 1) h Reset tt in
    let W : Resolution → Type 0 = λ g. EndsWith g t lines a.0 in
    let E : Resolution → Type 0 = λ g. AllZip (IsEnd g) (ends_of (after_reset h) lines) a.0 in
    let A : List (run.Interval (List ℕ)) → Type 0 = λ x. AllZip (IsEnd (resolution h)) (record { holds = h; tag = tag; start = start; duration = duration } ∷ ends_of (after_reset h) lines) x in
    let rest = tail (after_reset h) t a.0 (calls.plain (2 ^ 64 - 1) h Reset tt p) (calls.wherever (2 ^ 64 - 1) h Reset s t tt p st (refl, refl)) (subst W (sym same) a.3) in
    subst A (sym a.1) (record { plain = p; stands = st.0 a.2; classes = refl; tag = refl; start = refl; duration = refl }, subst E same rest)

pub ends_stand : CallsStand → (h : Plain) (s : State) (lines : List (ℕ × List ℕ)) (Ls : List (run.Interval (List ℕ))) → IsPlain (2 ^ 64 - 1) h → StandsWhereFits (2 ^ 64 - 1) h s → EndsWith (resolution h) s lines Ls
    → AllZip (IsEnd (resolution h)) (ends_of h lines) Ls
ends_stand calls h s [] Ls p st w = let A : List (run.Interval (List ℕ)) → Type 0 = λ x. AllZip (IsEnd (resolution h)) [] x in subst A (sym w) tt
ends_stand calls h s ((k, []) ∷ lines) Ls p st w = ends_stand calls h s lines Ls p st w
ends_stand calls h s ((k, b ∷ line) ∷ lines) Ls p st w = command_stands (command_of (b ∷ line)) h s lines Ls calls p st (command_fine (b ∷ line)) w (λ g t rest q u v. ends_stand calls g t lines rest q u v)

-- an interval of a log, with the histogram that it was written from; its times are in milliseconds
record Logged : Type 0 where
  histogram : Plain
  bytes : List ℕ
  tag : Option (List ℕ)
  start : ℕ
  duration : ℕ

abbrev end_of : Logged → run.Interval Plain
end_of i = record { holds = i.histogram; tag = i.tag; start = i.start; duration = i.duration }

abbrev piece_of : Logged → Piece
piece_of i = interval_piece i.histogram i.tag (i.start * 1_000_000) (i.duration * 1_000_000) 1 i.bytes

record IsLogged (i : Logged) : Type 0 where
  bytes : IsV2 i.histogram i.bytes
  piece : IsPiece (piece_of i)

-- a text is that of intervals of these histograms
record Logs (es : List (run.Interval Plain)) (text : List ℕ) : Type 0 where
  intervals : List Logged
  each : AllByRecursion IsLogged intervals
  text_is : text ≡ text_of (map piece_of intervals)
  ends : map end_of intervals ≡ es

one_more : (h : Plain) (tag : Option (List ℕ)) (start duration : ℕ) (es : List (run.Interval Plain)) (line text : List ℕ) → IsIntervalText IsV2 h tag (start * 1_000_000) (duration * 1_000_000) 1 line → Logs es text
    → Logs (record { holds = h; tag = tag; start = start; duration = duration } ∷ es) (line ++ text)
one_more h tag start duration es line text i l =
    let first : Logged = record { histogram = h; bytes = i.0; tag = tag; start = start; duration = duration } in
    record {
      intervals = first ∷ l.intervals;
      each = (record { bytes = i.1; piece = i.2 }, l.each);
      text_is = ap (λ t. t ++ text) i.3 ∙ ap (λ t. piece_text (piece_of first) ++ t) l.text_is;
      ends = ap (λ xs. end_of first ∷ xs) l.ends;
    }

logs_of : (is : List (run.Interval Plain)) (text : List ℕ) → IsLogText is text → Logs is text
logs_of [] text t = record { intervals = []; each = tt; text_is = t; ends = refl }
logs_of (i ∷ is) text (line, rest, t, p, e) =
    let T : List ℕ → Type 0 = λ x. Logs (i ∷ is) x in
    subst T (sym e) (one_more i.holds i.tag i.start i.duration is line rest t (logs_of is rest p))

-- the intervals that lines end without a `Fault`
pub no_error : {A B C : Type 0} (e : B) (x : A) → (λ (r : Result A B). r) (Err e) ≡ Ok x → C
no_error e x h = absurd (let f = h in cc)

end_ends : (great : Bool) (i : run.Interval Plain) (f : Fault) (r : Run) (es : List (run.Interval Plain)) (last : Plain) → (cond great (ended_by (Err f)) (prepend (i ∷ []) r)).ended ≡ Ok last → (r.ended ≡ Ok last → r.intervals ≡ es)
    → (cond great (ended_by (Err f)) (prepend (i ∷ []) r)).intervals ≡ i ∷ es
end_ends true i f r es last e h = no_error f last e
end_ends false i f r es last e h = ap (λ x. i ∷ x) (h e)

command_ends : (k : ℕ) (h : Plain) (c : Option Command) (onward : Plain → Run) (tail : Plain → List (run.Interval Plain)) (last : Plain) → (run_command true k h c onward).ended ≡ Ok last → ((g : Plain) → (onward g).ended ≡ Ok last → (onward g).intervals ≡ tail g)
    → (run_command true k h c onward).intervals ≡ at_command h c tail
command_ends k h None onward tail last e t = no_error _ last e
command_ends k h (Some (Apply call)) onward tail last e t = t _ e
command_ends k h (Some (End start duration tag)) onward tail last e t = end_ends (has_too_great_count h) (record { holds = h; tag = tag; start = start; duration = duration }) _ (onward (after_reset h)) (tail (after_reset h)) last e (t (after_reset h))

ends_are : (lines : List (ℕ × List ℕ)) (h last : Plain) → (lines_run true h lines).ended ≡ Ok last → (lines_run true h lines).intervals ≡ ends_of h lines
ends_are [] h last e = refl
ends_are ((k, []) ∷ lines) h last e = ends_are lines h last e
ends_are ((k, b ∷ line) ∷ lines) h last e = command_ends k h (command_of (b ∷ line)) (λ g. lines_run true g lines) (λ g. ends_of g lines) last e (λ g f. ends_are lines g last f)

-- what is read of an interval
abbrev interval_of : Logged → Interval
interval_of i = record { tag = i.tag; start = to_thousandths (i.start * 1_000_000) * 1_000_000; duration = to_thousandths (i.duration * 1_000_000) * 1_000_000; max = thousandths_text (max_thousandths (max_of i.histogram) 1); field = base64_of i.bytes }

abbrev span_of : Logged → Entry
span_of i = Span (interval_of i)

spans : (is : List Logged) → flat_map entries_of_piece (map piece_of is) ≡ map span_of is
spans [] = refl
spans (i ∷ is) = ap (λ es. span_of i ∷ es) (spans is)

pieces : (is : List Logged) → AllByRecursion IsLogged is → AllByRecursion IsPiece (map piece_of is)
pieces [] h = tt
pieces (i ∷ is) h = (h.0.piece, pieces is h.1)

-- what the library's laws on reading back say: of bytes, of Base64 and of lines
pub record ReadsBack : Type 0 where
  pub bytes : (h : Plain) (text : List ℕ) → IsV2 h text → (i : ℕ) → slice_index text i < 256
  pub contents : (greatest : ℕ) (h : Plain) (bytes more : List ℕ) → IsPlain greatest h → IsV2 h bytes → v2_at greatest (bytes ++ more) ≡ Ok (histogram_contents h, more)
  pub histogram : (greatest taken : ℕ) (h k : Plain) (bytes more : List ℕ) → IsPlain greatest h → IsV2 h bytes → IsReadAs greatest (bytes ++ more) k taken → (taken ≡ length bytes) × IsReadBack h k
  pub decoded : (bytes : List ℕ) → ((i : ℕ) → slice_index bytes i < 256) → base64_bytes (base64_of bytes) ≡ Some bytes
  pub pieces : (pieces : List Piece) → AllByRecursion IsPiece pieces → reading (text_of pieces) ≡ map is_read (flat_map entries_of_piece pieces)

-- a log of intervals is read as they are
log_read : ReadsBack → (is : List Logged) → AllByRecursion IsLogged is → reading (text_of (map piece_of is)) ≡ map is_read (map span_of is)
log_read back is h = back.pieces (map piece_of is) (pieces is h) ∙ ap (map is_read) (spans is)

not_refused : {A : Type 0} (x : A) (f : Defect) (r : Result A Defect) → r ≡ Ok x → r ≡ Err f → ⊥
not_refused x f r e g = absurd (let h = sym e ∙ g in cc)

-- a V2 text is read as a histogram alone
read_again : (h : Plain) (text : List ℕ) (r : Result (Plain × ℕ) DeserializeError) → ReadsBack → IsPlain (2 ^ 64 - 1) h → IsV2 h text → ReadsV2 (2 ^ 64 - 1) text r
    → (k : Plain) × (n : ℕ) × (r ≡ Ok (k, n)) × IsReadBack h k
read_again h text (Ok (k, n)) back p v r =
    let R : List ℕ → Type 0 = λ t. IsReadAs (2 ^ 64 - 1) t k n in
    (k, n, refl, (back.histogram (2 ^ 64 - 1) n h k text [] p v (subst R (sym (append-nil text)) r)).1)
read_again h text (Err e) back p v r =
    absurd (not_refused (histogram_contents h, []) r.0 (v2_at (2 ^ 64 - 1) text) (ap (v2_at (2 ^ 64 - 1)) (sym (append-nil text)) ∙ back.contents (2 ^ 64 - 1) h text [] p v) r.2)

-- a chosen interval is read back and added
field_added : (greatest : ℕ) (i : Logged) (m : Merging) (r : Result Merging MergeError) → ReadsBack → IsPlain (2 ^ 64 - 1) i.histogram → IsV2 i.histogram i.bytes → FieldMerges greatest m (base64_bytes (interval_of i).field) r
    → (k : Plain) × IsReadBack i.histogram k × (r ≡ Ok (with_interval greatest m k))
field_added greatest i m r back p v d =
    let F : Option (List ℕ) → Type 0 = λ o. FieldMerges greatest m o r in
    let f : FieldMerges greatest m (Some i.bytes) r = subst F (back.decoded i.bytes (back.bytes i.histogram i.bytes v)) d in
    let b = read_again i.histogram i.bytes f.0 back p v f.1 in
    let A : Result (Plain × ℕ) DeserializeError → Type 0 = λ x. BytesMerge greatest m x r in
    (b.0, b.3, subst A b.2 f.2)

-- the merge has no error, and what was added is what these histograms were read as
abbrev Added : ℕ → Merging → List Plain → Result Merging MergeError → Type 0
Added greatest m hs r = (ks : List Plain) × AllZip IsReadBack hs ks × ((last : Merging) × (r ≡ Ok last) × (last.histogram ≡ after_adds greatest m.histogram ks))

-- an interval, chosen or not
interval_merges : (greatest : ℕ) (filter : Filter) (i : Logged) (m : Merging) (items : List (Result TimedInterval ℕ)) (b : Bool) (hs : List Plain) (step r : Result Merging MergeError)
    → ReadsBack → IsPlain (2 ^ 64 - 1) i.histogram → IsV2 i.histogram i.bytes → IntervalMerges greatest m b (interval_of i) step → MergesOn (ItemsMerge greatest filter items) step r
    → ((n : Merging) → ItemsMerge greatest filter items n r → Added greatest n hs r) → Added greatest m (cons_option (cond b (Some i.histogram) None) hs) r
interval_merges greatest filter i m items true hs step r back p v d on rest =
    let f = field_added greatest i m step back p v d in
    let O : Result Merging MergeError → Type 0 = λ x. MergesOn (ItemsMerge greatest filter items) x r in
    let a = rest (with_interval greatest m f.0) (subst O f.2 on) in
    (f.0 ∷ a.0, (f.1, a.1), a.2)
interval_merges greatest filter i m items false hs step r back p v d on rest =
    let O : Result Merging MergeError → Type 0 = λ x. MergesOn (ItemsMerge greatest filter items) x r in
    rest (past_interval m) (subst O d on)

-- a start in milliseconds is read as it was written
begins_at : (ms : ℕ) → to_thousandths (ms * 1_000_000) * 1_000_000 ≡ ms * 1_000_000
begins_at ms = omega arith

-- a merge of intervals
merges : (greatest : ℕ) (filter : Filter) (is : List Logged) (m : Merging) (r : Result Merging MergeError) → ReadsBack → AllByRecursion IsLogged is → AllByRecursion (λ (e : run.Interval Plain). IsPlain (2 ^ 64 - 1) e.holds) (map end_of is)
    → ItemsMerge greatest filter (timed None (map is_read (map span_of is))) m r → Added greatest m (chosen_of filter (map end_of is)) r
merges greatest filter [] m r back h p e = ([], tt, (m, e, refl))
merges greatest filter (i ∷ is) m r back h p e =
    let I : Bool → Type 0 = λ b. IntervalMerges greatest m b (interval_of i) e.0 in
    interval_merges greatest filter i m (timed None (map is_read (map span_of is))) (is_chosen filter i.tag (i.start * 1_000_000)) (chosen_of filter (map end_of is)) e.0 r back p.0 h.0.bytes
    (subst I (ap (is_chosen filter i.tag) (begins_at i.start)) e.1) e.2
    (λ n f. merges greatest filter is n r back h.1 p.1 f)

no_fault : (ended : Result Plain Fault) → None ≡ result_err ended → (last : Plain) × (ended ≡ Ok last)
no_fault (Ok h) e = (h, refl)
no_fault (Err f) e = absurd (let g = e in cc)

-- the parts joined
merged_log : (h : Plain) (lines : List (ℕ × List ℕ)) (fewer greatest : ℕ) (filter : Filter) (quantiles : List Ratio) (written text : List ℕ) (fault : Option Fault) → ReadsBack → AllByRecursion (λ (e : run.Interval Plain). IsPlain (2 ^ 64 - 1) e.holds) (ends_of h lines)
    → IsLogText (lines_run true h lines).intervals written × (None ≡ result_err (lines_run true h lines).ended) → MergeReported greatest filter fewer quantiles written text fault
    → (fault ≡ None) × ((ks : List Plain) × AllZip IsReadBack (chosen_of filter (ends_of h lines)) ks × IsReport (after_adds greatest (empty_plain 1 2 fewer true) ks) quantiles text)
merged_log h lines fewer greatest filter quantiles written text fault back plain d t =
    let ok = no_fault (lines_run true h lines).ended d.1 in
    let L : List (run.Interval Plain) → Type 0 = λ es. Logs es written in
    let l : Logs (ends_of h lines) written = subst L (ends_are lines h ok.0 ok.1) (logs_of (lines_run true h lines).intervals written d.0) in
    let P : List (run.Interval Plain) → Type 0 = λ es. AllByRecursion (λ (e : run.Interval Plain). IsPlain (2 ^ 64 - 1) e.holds) es in
    let R : List (Result Entry ℕ) → Type 0 = λ xs. ItemsMerge greatest filter (timed None xs) (new_merging fewer) t.0 in
    let read : reading written ≡ map is_read (map span_of l.intervals) = ap reading l.text_is ∙ log_read back l.intervals l.each in
    let m = merges greatest filter l.intervals (new_merging fewer) t.0 back l.each (subst P (sym l.ends) plain) (subst R read t.1) in
    let E : Result Merging MergeError → Type 0 = λ e. Reported quantiles (result_map_both (λ (x : Merging). x.histogram) merge_fault e) text fault in
    let reported = subst E m.2.1 t.2 in
    let B : List (run.Interval Plain) → Type 0 = λ es. AllZip IsReadBack (chosen_of filter es) m.0 in
    let I : Plain → Type 0 = λ k. IsReport k quantiles text in
    (reported.1, (m.0, subst B l.ends m.1, subst I m.2.2 reported.0))

pub log_then_merge : ReadsBack → LogThenMerge
unfolding Outcome
log_then_merge back log merge sigfig fewer options quantiles input written text fault tl tm plain p q =
    let L : Option Task → Type 0 = λ o. MatchOption o ((written ≡ []) × (None ≡ Some Usage)) (λ task. (outputs_of task input).whole written None) in
    let M : Option Task → Type 0 = λ o. MatchOption o ((text ≡ []) × (fault ≡ Some Usage)) (λ task. (outputs_of task written).whole text fault) in
    merged_log (empty_plain 1 2 sigfig true) (enumerate_from 1 (parts 10 input)) fewer (greatest_into options.into) (filter_of options) quantiles written text fault back plain (subst L tl p) (subst M tm q)
