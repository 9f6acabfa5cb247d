-- What a merge of a log adds.
use Rattle.std.proofs.Common.{◌≡◌, ◌∙◌, ℕ, ◌+◌, Bool, true, false, List, [], ◌∷◌, length, min, sum, Option, Some, None, Result, Ok, Err, refl, sym, ap, subst, arith}
use Rattle.hdr_base.specs.Classes.{Resolution, resolution_of}
use Rattle.hdr_model.specs.Plain.{Plain, resolution, empty_plain}
use Rattle.hdr_model.specs.Marks.{IsTopMark, IsLowerMark}
use Rattle.hdr_model.specs.Joining.{after_adds}
use Rattle.hdr_model.specs.Merging.{after_add}
use Rattle.hdr_model.proofs.PlainBounds.{bounds, bounds-merged, same-bounds}
use Rattle.hdr_log.specs.Grammar.{Interval}
use Rattle.hdr_log.specs.Timed.{TimedInterval}
use Rattle.hdr_log.specs.Texts.{base64_bytes}
use Rattle.hdrhistogram.specs.Chosen.{Filter, is_chosen}
use Rattle.hdrhistogram.specs.LogMerging.{Merging, past_interval, with_interval, coarser_of, one_if_coarser, BytesMerge, FieldMerges, IntervalMerges, MergesOn, ItemsMerge, ChosenFirst, AreChosen}
use Rattle.hdrhistogram.specs.FieldRead.{IsHeldIn}
use Rattle.hdrhistogram.specs.V2Read.{Contents, histogram_contents, IsReadAs, ReadsV2}
use Rattle.hdrhistogram.specs.Defects.{Defect}
use Rattle.hdrhistogram.specs.declared.serialization.errors.DeserializeError.{DeserializeError}
use Rattle.hdrhistogram.specs.declared.serialization.interval_log.merge.MergeError.{MergeError}
use Rattle.hdrhistogram.proofs.FinerCounted.{resolution-added}
use Rattle.hdrhistogram.proofs.V2ReadBack.{top-unique, lower-unique}

-- what is added from a state on
abbrev Adds : ℕ → Filter → Merging → List (Result TimedInterval ℕ) → Merging → Type 0
Adds greatest filter m items last =
    (hs : List Plain) × AreChosen filter items hs × (last.histogram ≡ after_adds greatest m.histogram hs) × (last.chosen ≡ m.chosen + length hs)
    × (last.coarser ≡ m.coarser + coarser_of (resolution m.histogram) hs)

same_Ok : (m n : Merging) → (λ (r : Result Merging MergeError). r) (Ok m) ≡ Ok n → m ≡ n
same_Ok m n e = cc

no_error : (m : Merging) (e : MergeError) → (λ (r : Result Merging MergeError). r) (Ok m) ≡ Err e → ⊥
no_error m e h = absurd (let f = h in cc)

-- a step without an error
stepped : (greatest : ℕ) (filter : Filter) (m next last : Merging) (items : List (Result TimedInterval ℕ)) (step : Result Merging MergeError)
    → step ≡ Ok next → MergesOn (ItemsMerge greatest filter items) step (Ok last) → ItemsMerge greatest filter items next (Ok last)
stepped greatest filter m next last items step e on = subst (λ x. MergesOn (ItemsMerge greatest filter items) x (Ok last)) e on

failed : {A : Type 0} (greatest : ℕ) (filter : Filter) (last : Merging) (items : List (Result TimedInterval ℕ)) (step : Result Merging MergeError) (e : MergeError)
    → step ≡ Err e → MergesOn (ItemsMerge greatest filter items) step (Ok last) → A
failed greatest filter last items step e h on =
    absurd (no_error last e (subst (λ x. MergesOn (ItemsMerge greatest filter items) x (Ok last)) h on))

-- the bytes of a chosen interval were read and added
bytes_added : (greatest : ℕ) (filter : Filter) (m last : Merging) (items : List (Result TimedInterval ℕ)) (step : Result Merging MergeError) (bytes : List ℕ) (found : Result (Plain × ℕ) DeserializeError)
    → ReadsV2 18446744073709551615 bytes found → BytesMerge greatest m found step → MergesOn (ItemsMerge greatest filter items) step (Ok last)
    → (h : Plain) × ((taken : ℕ) × IsReadAs 18446744073709551615 bytes h taken) × ItemsMerge greatest filter items (with_interval greatest m h) (Ok last)
bytes_added greatest filter m last items step bytes (Ok found) r b on = (found.0, (found.1, r), stepped greatest filter m (with_interval greatest m found.0) last items step b on)
bytes_added greatest filter m last items step bytes (Err e) r b on = failed greatest filter last items step _ b on

field_added : (greatest : ℕ) (filter : Filter) (m last : Merging) (items : List (Result TimedInterval ℕ)) (interval : Interval) (step : Result Merging MergeError) (o : Option (List ℕ))
    → base64_bytes interval.field ≡ o → FieldMerges greatest m o step → MergesOn (ItemsMerge greatest filter items) step (Ok last)
    → (h : Plain) × IsHeldIn 18446744073709551615 interval.field h × ItemsMerge greatest filter items (with_interval greatest m h) (Ok last)
field_added greatest filter m last items interval step None e f on = failed greatest filter last items step _ f on
field_added greatest filter m last items interval step (Some bytes) e f on =
    let b = bytes_added greatest filter m last items step bytes f.0 f.1 f.2 on in
    (b.0, (bytes, e, b.1.0, b.1.1), b.2)

-- an interval, chosen or not
interval_added : (greatest : ℕ) (filter : Filter) (m last : Merging) (items : List (Result TimedInterval ℕ)) (interval : Interval) (b : Bool) (step : Result Merging MergeError)
    → IntervalMerges greatest m b interval step → MergesOn (ItemsMerge greatest filter items) step (Ok last)
    → ((next : Merging) → ItemsMerge greatest filter items next (Ok last) → Adds greatest filter next items last)
    → (hs : List Plain) × ChosenFirst b interval (AreChosen filter items) hs × (last.histogram ≡ after_adds greatest m.histogram hs) × (last.chosen ≡ m.chosen + length hs)
    × (last.coarser ≡ m.coarser + coarser_of (resolution m.histogram) hs)
interval_added greatest filter m last items interval true step i on rest =
    let f = field_added greatest filter m last items interval step (base64_bytes interval.field) refl i on in
    let r = rest (with_interval greatest m f.0) f.2 in
    let g = resolution m.histogram in
    let S : Resolution → Type 0 = λ g. last.coarser ≡ (m.coarser + one_if_coarser (resolution m.histogram) f.0) + coarser_of g r.0 in
    let coarser : last.coarser ≡ (m.coarser + one_if_coarser g f.0) + coarser_of g r.0 = subst S (resolution-added greatest m.histogram f.0) r.4 in
    (f.0 ∷ r.0, (f.0, r.0, refl, f.1, r.1), r.2, omega (arith, r.3), omega (arith, coarser))
interval_added greatest filter m last items interval false step i on rest =
    rest (past_interval m) (stepped greatest filter m (past_interval m) last items step i on)

pub all_added : (greatest : ℕ) (filter : Filter) (items : List (Result TimedInterval ℕ)) (m last : Merging) → ItemsMerge greatest filter items m (Ok last) → Adds greatest filter m items last
all_added greatest filter [] m last e =
    let same : last ≡ m = same_Ok last m e in
    ([], refl, ap (λ (x : Merging). x.histogram) same, omega (arith, ap (λ (x : Merging). x.chosen) same), omega (arith, ap (λ (x : Merging). x.coarser) same))
all_added greatest filter (Ok i ∷ items) m last e =
    interval_added greatest filter m last items i.interval (is_chosen filter i.interval.tag i.time) e.0 e.1 e.2
    (λ next on. all_added greatest filter items next last on)
all_added greatest filter (Err at ∷ items) m last e = failed greatest filter last items e.0 _ e.1 e.2

-- ---- an interval holds one histogram

same_read : (p q : Contents × List ℕ) → (λ (r : Result (Contents × List ℕ) Defect). r) (Ok p) ≡ Ok q → p ≡ q
same_read p q e = cc

same_contents : (c d : Contents) (x y : List ℕ) → (λ (r : Result (Contents × List ℕ) Defect). r) (Ok (c, x)) ≡ Ok (d, y) → c ≡ d
same_contents c d x y e = ap (λ (p : Contents × List ℕ). p.0) (same_read (c, x) (d, y) e)

same_bytes : (x y : List ℕ) → (λ (o : Option (List ℕ)). o) (Some x) ≡ Some y → x ≡ y
same_bytes x y e = cc

rebuilt : (h : Plain) → h ≡ record { low = h.low; high = h.high; sigfig = h.sigfig; auto_resize = h.auto_resize; counts = h.counts; total = h.total; top_mark = h.top_mark; lower_mark = h.lower_mark }
rebuilt h = refl

-- the same bytes are read as one histogram
read_once : (greatest : ℕ) (text : List ℕ) (h k : Plain) (m n : ℕ) → IsReadAs greatest text h m → IsReadAs greatest text k n → h ≡ k
read_once greatest text h k m n p q =
    let c : p.contents ≡ q.contents = same_contents _ _ _ _ (sym p.read ∙ q.read) in
    let contents : histogram_contents h ≡ histogram_contents k = p.histogram.contents ∙ c ∙ sym q.histogram.contents in
    let low : h.low ≡ k.low = ap (λ (x : Contents). x.low) contents in
    let high : h.high ≡ k.high = ap (λ (x : Contents). x.high) contents in
    let sigfig : h.sigfig ≡ k.sigfig = ap (λ (x : Contents). x.sigfig) contents in
    let counts : h.counts ≡ k.counts = ap (λ (x : Contents). x.counts) contents in
    let fixed : h.auto_resize ≡ k.auto_resize = p.histogram.fixed ∙ sym q.histogram.fixed in
    let total : h.total ≡ k.total = p.histogram.restated.total ∙ ap (λ l. min (sum l) 18446744073709551615) counts ∙ sym q.histogram.restated.total in
    let top : h.top_mark ≡ k.top_mark = top-unique k.counts h.top_mark k.top_mark (subst (λ l. IsTopMark l h.top_mark) counts p.histogram.restated.top_mark) q.histogram.restated.top_mark in
    let lower : h.lower_mark ≡ k.lower_mark = lower-unique k.counts h.lower_mark k.lower_mark (subst (λ l. IsLowerMark l h.lower_mark) counts p.histogram.restated.lower_mark) q.histogram.restated.lower_mark in
    rw (rebuilt h, low, high, sigfig, fixed, counts, total, top, lower) refl

held_once : (field : List ℕ) (h k : Plain) → IsHeldIn 18446744073709551615 field h → IsHeldIn 18446744073709551615 field k → h ≡ k
held_once field h k p q =
    let bytes : p.0 ≡ q.0 = same_bytes p.0 q.0 (sym p.1 ∙ q.1) in
    read_once 18446744073709551615 q.0 h k p.2 q.2 (subst (λ t. IsReadAs 18446744073709551615 t h p.2) bytes p.3) q.3

first_once : (b : Bool) (interval : Interval) (Rest : List Plain → Type 0) (hs ks : List Plain) → ((xs ys : List Plain) → Rest xs → Rest ys → xs ≡ ys)
    → ChosenFirst b interval Rest hs → ChosenFirst b interval Rest ks → hs ≡ ks
first_once true interval Rest hs ks once p q =
    p.2 ∙ ap (λ h. h ∷ p.1) (held_once interval.field p.0 q.0 p.3 q.3) ∙ ap (λ l. q.0 ∷ l) (once p.1 q.1 p.4 q.4) ∙ sym q.2
first_once false interval Rest hs ks once p q = once hs ks p q

pub chosen_once : (filter : Filter) (items : List (Result TimedInterval ℕ)) (hs ks : List Plain) → AreChosen filter items hs → AreChosen filter items ks → hs ≡ ks
chosen_once filter [] hs ks p q = p ∙ sym q
chosen_once filter (Ok i ∷ items) hs ks p q =
    first_once (is_chosen filter i.interval.tag i.time) i.interval (AreChosen filter items) hs ks (λ xs ys r s. chosen_once filter items xs ys r s) p q
chosen_once filter (Err at ∷ items) hs ks p q = absurd p

pub empty_resolution : (n : ℕ) → resolution (empty_plain 1 2 n true) ≡ resolution_of 1 n
unfolding empty_plain
empty_resolution n = refl

-- ---- if the chosen intervals hold histograms, a merge has no error

abbrev pub IsDone : Result Merging MergeError → Type 0
IsDone r = (m : Merging) × (r ≡ Ok m)

read_or_not : (r : Result (Contents × List ℕ) Defect) (p : Contents × List ℕ) (f : Defect) → r ≡ Ok p → r ≡ Err f → ⊥
read_or_not r p f is not = let both : ◌≡◌ {A = Result (Contents × List ℕ) Defect} (Ok p) (Err f) = sym is ∙ not in absurd cc

bytes_or_not : (o : Option (List ℕ)) (x : List ℕ) → o ≡ None → o ≡ Some x → ⊥
bytes_or_not o x not is = let both : ◌≡◌ {A = Option (List ℕ)} None (Some x) = sym not ∙ is in absurd cc

bytes_taken : (greatest : ℕ) (filter : Filter) (m : Merging) (items : List (Result TimedInterval ℕ)) (step r : Result Merging MergeError) (bytes : List ℕ) (h : Plain) (taken : ℕ) (found : Result (Plain × ℕ) DeserializeError)
    → IsReadAs 18446744073709551615 bytes h taken → ReadsV2 18446744073709551615 bytes found → BytesMerge greatest m found step → MergesOn (ItemsMerge greatest filter items) step r
    → ((next : Merging) → ItemsMerge greatest filter items next r → IsDone r) → IsDone r
bytes_taken greatest filter m items step r bytes h taken (Ok found) p q b on rest = rest (with_interval greatest m found.0) (subst (λ x. MergesOn (ItemsMerge greatest filter items) x r) b on)
bytes_taken greatest filter m items step r bytes h taken (Err e) p q b on rest = absurd (read_or_not _ _ q.0 p.read q.2)

field_taken : (greatest : ℕ) (filter : Filter) (m : Merging) (items : List (Result TimedInterval ℕ)) (interval : Interval) (step r : Result Merging MergeError) (h : Plain) (o : Option (List ℕ))
    → base64_bytes interval.field ≡ o → IsHeldIn 18446744073709551615 interval.field h → FieldMerges greatest m o step → MergesOn (ItemsMerge greatest filter items) step r
    → ((next : Merging) → ItemsMerge greatest filter items next r → IsDone r) → IsDone r
field_taken greatest filter m items interval step r h None e held f on rest = absurd (bytes_or_not (base64_bytes interval.field) held.0 e held.1)
field_taken greatest filter m items interval step r h (Some bytes) e held f on rest =
    let same : held.0 ≡ bytes = same_bytes held.0 bytes (sym held.1 ∙ e) in
    bytes_taken greatest filter m items step r bytes h held.2 f.0 (subst (λ t. IsReadAs 18446744073709551615 t h held.2) same held.3) f.1 f.2 on rest

interval_taken : (greatest : ℕ) (filter : Filter) (m : Merging) (items : List (Result TimedInterval ℕ)) (interval : Interval) (b : Bool) (step r : Result Merging MergeError) (hs : List Plain)
    → ChosenFirst b interval (AreChosen filter items) hs → IntervalMerges greatest m b interval step → MergesOn (ItemsMerge greatest filter items) step r
    → ((next : Merging) (ks : List Plain) → AreChosen filter items ks → ItemsMerge greatest filter items next r → IsDone r) → IsDone r
interval_taken greatest filter m items interval true step r hs c i on rest =
    field_taken greatest filter m items interval step r c.0 (base64_bytes interval.field) refl c.3 i on (λ next e. rest next c.1 c.4 e)
interval_taken greatest filter m items interval false step r hs c i on rest =
    rest (past_interval m) hs c (subst (λ x. MergesOn (ItemsMerge greatest filter items) x r) i on)

pub all_taken : (greatest : ℕ) (filter : Filter) (items : List (Result TimedInterval ℕ)) (m : Merging) (r : Result Merging MergeError) (hs : List Plain)
    → AreChosen filter items hs → ItemsMerge greatest filter items m r → IsDone r
all_taken greatest filter [] m r hs c e = (m, e)
all_taken greatest filter (Ok i ∷ items) m r hs c e =
    interval_taken greatest filter m items i.interval (is_chosen filter i.interval.tag i.time) e.0 r hs c e.1 e.2
    (λ next ks d on. all_taken greatest filter items next r ks d on)
all_taken greatest filter (Err at ∷ items) m r hs c e = absurd c

-- ---- adding changes neither the lowest value nor the digits

added_bounds : (greatest : ℕ) (h : Plain) (ks : List Plain) → bounds (after_adds greatest h ks) ≡ bounds h
added_bounds greatest h [] = refl
added_bounds greatest h (k ∷ ks) = added_bounds greatest (after_add greatest h k) ks ∙ bounds-merged greatest h k

empty_low : (n : ℕ) → (empty_plain 1 2 n true).low ≡ 1
unfolding empty_plain
empty_low n = refl

empty_sigfig : (n : ℕ) → (empty_plain 1 2 n true).sigfig ≡ n
unfolding empty_plain
empty_sigfig n = refl

pub added_digits : (greatest n : ℕ) (h : Plain) (ks : List Plain) → h ≡ after_adds greatest (empty_plain 1 2 n true) ks → (h.low ≡ 1) × (h.sigfig ≡ n)
added_digits greatest n h ks e =
    let kept = same-bounds h (empty_plain 1 2 n true) (ap (λ (k : Plain). bounds k) e ∙ added_bounds greatest (empty_plain 1 2 n true) ks) in
    (kept.0 ∙ empty_low n, kept.1 ∙ empty_sigfig n)
