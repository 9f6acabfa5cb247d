-- Arguments and an input have one outcome.
use Rattle.hdr_tool.proofs.Common.{◌≡◌, ℕ, ◌+◌, ◌-◌, ◌*◌, ◌^◌, Bool, true, false, List, [], ◌∷◌, ◌++◌, Option, Some, None, MatchOption, Result, Ok, Err, refl, sym, ap, ◌∙◌, subst, MatchBool, codes, option_map, Ratio, Plain, TimedInterval, timed_intervals, piece_text, base64_bytes, IsV2, IsWrittenAlike, v2_at, ReadsV2, Filter, Every, interval_piece, Merging, new_merging, with_interval, BytesMerge, FieldMerges, IntervalMerges, ItemMerges, MergesOn, ItemsMerge, AreChosen, DeserializeError, MergeError, Fault, Usage, Task, Report, Log, Merge, task_of, greatest_into, filter_of, merge_fault, quantile_line, has_too_great_count, input_run, Reported, result_map_both, outputs_of, Unread, kind_of, OneOutcome}
use Rattle.std.specs.List.{flat_map}
use Rattle.std.specs.Fmt.{decimal}
use Rattle.hex.specs.Hex.{encode_lower}
use Rattle.hdr_log.specs.Grammar.{Interval}
use Rattle.hdrhistogram.specs.Chosen.{is_chosen}
use Rattle.hdr_tool.specs.Program.{Outcome}
use Rattle.hdr_tool.specs.Program as run

-- what the library's laws on bytes and on merging say
pub record Once : Type 0 where
  pub bytes : (h k : Plain) (a b : List ℕ) → IsV2 h a → IsV2 k b → IsWrittenAlike h k → a ≡ b
  pub chosen : (filter : Filter) (items : List (Result TimedInterval ℕ)) (hs others : List Plain) → AreChosen filter items hs → AreChosen filter items others → hs ≡ others

bytes_once : Once → (h : Plain) (a b : List ℕ) → IsV2 h a → IsV2 h b → a ≡ b
bytes_once once h a b p q = once.bytes h h a b p q (record { low = refl; high = refl; sigfig = refl; counts = refl; top_class = refl })

text_once : Once → (is : List (run.Interval Plain)) (a b : List ℕ) → run.IsLogText is a → run.IsLogText is b → a ≡ b
text_once once [] a b p q = p ∙ sym q
text_once once (i ∷ is) a b (l, r, t, p, e) (l', r', t', p', e') =
    let line : l ≡ l' = t.3 ∙ ap (λ x. piece_text (interval_piece i.holds i.tag (i.start * 1_000_000) (i.duration * 1_000_000) 1 x)) (bytes_once once i.holds t.0 t'.0 t.1 t'.1) ∙ sym t'.3 in
    e ∙ ap (λ x. x ++ r) line ∙ ap (λ x. l' ++ x) (text_once once is r r' p p') ∙ sym e'

field_once : Once → (h : Plain) (great : Bool) (a b : List ℕ) → MatchBool great (a ≡ codes "none") ((bytes : List ℕ) × IsV2 h bytes × (a ≡ encode_lower bytes)) → MatchBool great (b ≡ codes "none") ((bytes : List ℕ) × IsV2 h bytes × (b ≡ encode_lower bytes)) → a ≡ b
field_once once h true a b p q = p ∙ sym q
field_once once h false a b p q = p.2 ∙ ap encode_lower (bytes_once once h p.0 q.0 p.1 q.1) ∙ sym q.2

reported_once : Once → (quantiles : List Ratio) (ended : Result Plain Fault) (a b : List ℕ) (f g : Option Fault) → Reported quantiles ended a f → Reported quantiles ended b g → (a ≡ b) × (f ≡ g)
reported_once once quantiles (Ok h) a b f g p q =
    let field = field_once once h (has_too_great_count h) p.0.0 q.0.0 p.0.1 q.0.1 in
    (p.0.2 ∙ ap (λ x. codes "len " ++ decimal h.total ++ 10 ∷ [] ++ flat_map (quantile_line h) quantiles ++ codes "v2 " ++ x ++ 10 ∷ []) field ∙ sym q.0.2, p.1 ∙ sym q.1)
reported_once once quantiles (Err e) a b f g p q = (p.0 ∙ sym q.0, p.1 ∙ sym q.1)

-- ---- a merge has one result: one histogram, or one `Fault`

abbrev Same : Result Merging MergeError → Result Merging MergeError → Type 0
Same (Ok m) (Ok n) = m ≡ n
Same (Err e) (Err f) = kind_of (merge_fault e) ≡ kind_of (merge_fault f)
Same _ _ = ⊥

same_self : (r : Result Merging MergeError) → Same r r
same_self (Ok m) = refl
same_self (Err e) = refl

same_both : (x r s : Result Merging MergeError) → r ≡ x → s ≡ x → Same r s
same_both x r s p q = rw (p, q) (same_self x)

apart : {A B : Type 0} (r : Result A B) (x : A) (e : B) → r ≡ Ok x → r ≡ Err e → ⊥
apart r x e p q = absurd (let h = sym p ∙ q in cc)

same_err : {A B : Type 0} (r : Result A B) (e f : B) → r ≡ Err e → r ≡ Err f → e ≡ f
same_err r e f p q = let h = sym p ∙ q in cc

first_of : (h k : Plain) → (λ (l : List Plain). l) (h ∷ []) ≡ k ∷ [] → h ≡ k
first_of h k e = cc

module _ (once : Once) (greatest : ℕ) (filter : Filter) where
  histogram_once : (interval : Interval) (bytes : List ℕ) (x y : Plain × ℕ) → base64_bytes interval.field ≡ Some bytes → ReadsV2 (2 ^ 64 - 1) bytes (Ok x) → ReadsV2 (2 ^ 64 - 1) bytes (Ok y) → x.0 ≡ y.0
  unfolding is_chosen
  histogram_once interval bytes x y e p q =
      first_of x.0 y.0 (once.chosen (record { tags = Every; from = None; to = None }) (Ok (record { time = 0; interval = interval }) ∷ []) (x.0 ∷ []) (y.0 ∷ []) (x.0, [], refl, (bytes, e, x.1, p), refl) (y.0, [], refl, (bytes, e, y.1, q), refl))

  found_once : (interval : Interval) (m : Merging) (bytes : List ℕ) (x y : Result (Plain × ℕ) DeserializeError) (r s : Result Merging MergeError) → base64_bytes interval.field ≡ Some bytes
      → ReadsV2 (2 ^ 64 - 1) bytes x → BytesMerge greatest m x r → ReadsV2 (2 ^ 64 - 1) bytes y → BytesMerge greatest m y s → Same r s
  found_once interval m bytes (Ok x) (Ok y) r s e p a q b = rw (a, b) (ap (with_interval greatest m) (histogram_once interval bytes x y e p q))
  found_once interval m bytes (Ok x) (Err f) r s e p a q b = absurd (apart (v2_at (2 ^ 64 - 1) bytes) _ q.0 p.read q.2)
  found_once interval m bytes (Err f) (Ok y) r s e p a q b = absurd (apart (v2_at (2 ^ 64 - 1) bytes) _ p.0 q.read p.2)
  found_once interval m bytes (Err f) (Err g) r s e p a q b = rw (a, b) (ap (Unread (m.intervals + 1)) (p.1 ∙ ap Some (same_err (v2_at (2 ^ 64 - 1) bytes) p.0 q.0 p.2 q.2) ∙ sym q.1))

  field_merged : (interval : Interval) (m : Merging) (o : Option (List ℕ)) (r s : Result Merging MergeError) → base64_bytes interval.field ≡ o → FieldMerges greatest m o r → FieldMerges greatest m o s → Same r s
  field_merged interval m None r s e p q = same_both _ r s p q
  field_merged interval m (Some bytes) r s e p q = found_once interval m bytes p.0 q.0 r s e p.1 p.2 q.1 q.2

  interval_once : (interval : Interval) (m : Merging) (chosen : Bool) (r s : Result Merging MergeError) → IntervalMerges greatest m chosen interval r → IntervalMerges greatest m chosen interval s → Same r s
  interval_once interval m true r s p q = field_merged interval m (base64_bytes interval.field) r s refl p q
  interval_once interval m false r s p q = same_both _ r s p q

  item_once : (item : Result TimedInterval ℕ) (m : Merging) (r s : Result Merging MergeError) → ItemMerges greatest filter m item r → ItemMerges greatest filter m item s → Same r s
  item_once (Ok i) m r s p q = interval_once i.interval m (is_chosen filter i.interval.tag i.time) r s p q
  item_once (Err at) m r s p q = same_both _ r s p q

  rest_once : (items : List (Result TimedInterval ℕ)) (x y r s : Result Merging MergeError) → Same x y → MergesOn (ItemsMerge greatest filter items) x r → MergesOn (ItemsMerge greatest filter items) y s
      → ((m : Merging) → ItemsMerge greatest filter items m r → ItemsMerge greatest filter items m s → Same r s) → Same r s
  rest_once items (Ok m) (Ok n) r s e p q next = next m p (subst (λ x. ItemsMerge greatest filter items x s) (sym e) q)
  rest_once items (Err e) (Err f) r s same p q next = rw (p, q) same
  rest_once items (Ok m) (Err f) r s e p q next = absurd e
  rest_once items (Err e) (Ok n) r s same p q next = absurd same

  merge_once : (items : List (Result TimedInterval ℕ)) (m : Merging) (r s : Result Merging MergeError) → ItemsMerge greatest filter items m r → ItemsMerge greatest filter items m s → Same r s
  merge_once [] m r s p q = same_both _ r s p q
  merge_once (item ∷ items) m r s p q = rest_once items p.0 q.0 r s (item_once item m p.0 q.0 p.1 q.1) p.2 q.2 (λ n u v. merge_once items n r s u v)

merged_once : Once → (quantiles : List Ratio) (r s : Result Merging MergeError) (a b : List ℕ) (f g : Option Fault) → Same r s → Reported quantiles (result_map_both (λ (m : Merging). m.histogram) merge_fault r) a f → Reported quantiles (result_map_both (λ (m : Merging). m.histogram) merge_fault s) b g → (a ≡ b) × (option_map kind_of f ≡ option_map kind_of g)
merged_once once quantiles (Ok m) (Ok n) a b f g same p q =
    let h = reported_once once quantiles (Ok m.histogram) a b f g p (subst (λ (x : Merging). Reported quantiles (Ok x.histogram) b g) (sym same) q) in
    (h.0, ap (option_map kind_of) h.1)
merged_once once quantiles (Err d) (Err e) a b f g same p q = (p.0 ∙ sym q.0, ap (option_map kind_of) p.1 ∙ ap Some same ∙ sym (ap (option_map kind_of) q.1))
merged_once once quantiles (Ok m) (Err e) a b f g same p q = absurd same
merged_once once quantiles (Err d) (Ok n) a b f g same p q = absurd same

task_once : Once → (task : Task) (input a b : List ℕ) (f g : Option Fault) → (outputs_of task input).whole a f → (outputs_of task input).whole b g → (a ≡ b) × (option_map kind_of f ≡ option_map kind_of g)
task_once once (Report sigfig quantiles) input a b f g p q =
    let h = reported_once once quantiles (input_run false sigfig input).ended a b f g p q in (h.0, ap (option_map kind_of) h.1)
task_once once (Log sigfig) input a b f g p q = (text_once once (input_run true sigfig input).intervals a b p.0 q.0, ap (option_map kind_of) (p.1 ∙ sym q.1))
task_once once (Merge options sigfig quantiles) input a b f g p q =
    merged_once once quantiles p.0 q.0 a b f g (merge_once once (greatest_into options.into) (filter_of options) (timed_intervals input) (new_merging sigfig) p.0 q.0 p.1 q.1) p.2 q.2

by_task : Once → (given : Option Task) (input a b : List ℕ) (f g : Option Fault) → MatchOption given ((a ≡ []) × (f ≡ Some Usage)) (λ task. (outputs_of task input).whole a f) → MatchOption given ((b ≡ []) × (g ≡ Some Usage)) (λ task. (outputs_of task input).whole b g)
    → (a ≡ b) × (option_map kind_of f ≡ option_map kind_of g)
by_task once None input a b f g p q = (p.0 ∙ sym q.0, ap (option_map kind_of) (p.1 ∙ sym q.1))
by_task once (Some task) input a b f g p q = task_once once task input a b f g p q

pub one_outcome : Once → OneOutcome
unfolding Outcome
one_outcome once arguments input a b f g p q = by_task once (task_of arguments) input a b f g p q
