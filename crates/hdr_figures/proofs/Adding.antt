-- Intervals that are added, and their greatest percentiles.
use Rattle.std.proofs.Common.{◌≡◌, ◌∙◌, ◌++◌, ◌∷◌, [], ℕ, ◌+◌, ◌-◌, ◌^◌, ◌<◌, Bool, List, Option, Some, Result, Ok, refl, ap, subst, sym, map, take, drop, max, min, sum, length, get_or}
use Rattle.std.specs.List.{fold}
use Rattle.std.proofs.lemmas.List.{map_more}
use Rattle.hdr_model.specs.Marks.{IsTopMark, IsLowerMark}
use Rattle.hdr_model.specs.Merging.{classes_from}
use Rattle.hdr_model.specs.Plain.{Plain, resolution}
use Rattle.hdr_logs.specs.Stored.{view_of_stored}
use Rattle.hdr_logs.specs.declared.stored.StoredInterval.{StoredInterval}
use Rattle.hdrhistogram.specs.ClassesRead.{AppendsField, times_of}
use Rattle.hdrhistogram.specs.Defects.{Defect}
use Rattle.hdrhistogram.specs.FieldRead.{IsHeldIn}
use Rattle.hdrhistogram.specs.V2Read.{Contents, IsRestated, histogram_contents, v2_at}
use Rattle.hdrhistogram.specs.declared.serialization.class_decoder.RecordedBounds.{RecordedBounds}
use Rattle.hdrhistogram.specs.declared.serialization.class_decoder.RecordedClass.{RecordedClass}
use Rattle.hdrhistogram.proofs.V2ReadBack.{top-unique, lower-unique}
use Rattle.hdr_figures.specs.Classes.{ListsClasses}
use Rattle.hdr_figures.specs.Figures.{value_at, no_peaks, peaks_with, ArePeaksOf}
use Rattle.hdr_figures.specs.Intervals.{AreHistogramsOf}
use Rattle.hdr_figures.specs.declared.figures.Peaks.{Peaks}

-- ---- the histogram of a field

some_is : (x y : List ℕ) → ◌≡◌ {A = Option (List ℕ)} (Some x) (Some y) → x ≡ y
some_is x y e = cc

ok_is : (x y : Contents × List ℕ) → ◌≡◌ {A = Result (Contents × List ℕ) Defect} (Ok x) (Ok y) → x ≡ y
ok_is x y e = cc

abbrev made : Contents → Bool → ℕ → Option ℕ → Option ℕ → Plain
made c auto_resize total top lower =
    record { low = c.low; high = c.high; sigfig = c.sigfig; auto_resize = auto_resize; counts = c.counts; total = total; top_mark = top; lower_mark = lower }

restated_one : (h k : Plain) → histogram_contents h ≡ histogram_contents k → h.auto_resize ≡ k.auto_resize → IsRestated h → IsRestated k → h ≡ k
restated_one h k same fixed p q =
    let counts : h.counts ≡ k.counts = ap (λ (c : Contents). c.counts) same in
    let total : h.total ≡ k.total = p.total ∙ ap (λ (ns : List ℕ). min (sum ns) (2 ^ 64 - 1)) counts ∙ sym q.total in
    let top : h.top_mark ≡ k.top_mark = top-unique k.counts h.top_mark k.top_mark (subst (λ ns. IsTopMark ns h.top_mark) counts p.top_mark) q.top_mark in
    let lower : h.lower_mark ≡ k.lower_mark = lower-unique k.counts h.lower_mark k.lower_mark (subst (λ ns. IsLowerMark ns h.lower_mark) counts p.lower_mark) q.lower_mark in
    ap (λ c. made c h.auto_resize h.total h.top_mark h.lower_mark) same ∙ ap (λ b. made (histogram_contents k) b h.total h.top_mark h.lower_mark) fixed
    ∙ ap (λ t. made (histogram_contents k) k.auto_resize t h.top_mark h.lower_mark) total ∙ ap (λ m. made (histogram_contents k) k.auto_resize k.total m h.lower_mark) top
    ∙ ap (λ m. made (histogram_contents k) k.auto_resize k.total k.top_mark m) lower

-- a field holds one histogram
pub held_one : (field : List ℕ) (h k : Plain) → IsHeldIn (2 ^ 64 - 1) field h → IsHeldIn (2 ^ 64 - 1) field k → h ≡ k
held_one field h k (bytes, e, taken, read) (others, f, end, again) =
    let same : bytes ≡ others = some_is bytes others (sym e ∙ f) in
    let both : ◌≡◌ {A = Contents × List ℕ} (read.contents, drop taken bytes) (again.contents, drop end others) = ok_is _ _ (sym read.read ∙ ap (v2_at (2 ^ 64 - 1)) same ∙ again.read) in
    restated_one h k (read.histogram.contents ∙ ap (λ (x : Contents × List ℕ). x.0) both ∙ sym again.histogram.contents) (read.histogram.fixed ∙ sym again.histogram.fixed) read.histogram.restated again.histogram.restated

-- the classes that are decoded are those of the histogram
pub held_classes : (field : List ℕ) (bounds : RecordedBounds) (old new : List RecordedClass) → old ≡ [] → AppendsField (2 ^ 64 - 1) field bounds old new
    → (h : Plain) × IsHeldIn (2 ^ 64 - 1) field h × ListsClasses bounds new h
held_classes field bounds old new none (bytes, e, a) = (
  a.histogram,
  (bytes, e, a.taken, a.read),
  record {
    plain = a.plain;
    restated = a.read.histogram.restated;
    low = a.low;
    sigfig = a.sigfig;
    items = a.appended ∙ ap (λ l. map times_of l ++ classes_from (resolution a.histogram) 0 a.histogram.counts) none;
  },
)

-- ---- intervals

-- one more interval has one more histogram
histograms_behind : (all : List StoredInterval) (i : StoredInterval) (hs : List Plain) (h : Plain) → AreHistogramsOf all hs → IsHeldIn (2 ^ 64 - 1) (view_of_stored i).field h → AreHistogramsOf (all ++ i ∷ []) (hs ++ h ∷ [])
histograms_behind [] i hs h are one = (h, [], ap (λ l. l ++ h ∷ []) are, one, refl)
histograms_behind (j ∷ all) i hs h are one = (are.0, are.1 ++ h ∷ [], ap (λ l. l ++ h ∷ []) are.2, are.3, histograms_behind all i are.1 h are.4 one)

-- one more of the intervals of some keys
pub histograms_more : {K : Type 0} (f : K → StoredInterval) (keys : List K) (at : ℕ) (key : K) (hs : List Plain) (h : Plain) → at < length keys → AreHistogramsOf (map f (take at keys)) hs → IsHeldIn (2 ^ 64 - 1) (view_of_stored (f (get_or keys at key))).field h → AreHistogramsOf (map f (take (at + 1) keys)) (hs ++ h ∷ [])
histograms_more f keys at key hs h inside before one =
    subst (λ all. AreHistogramsOf all (hs ++ h ∷ [])) (sym (map_more f keys at key inside)) (histograms_behind (map f (take at keys)) (f (get_or keys at key)) hs h before one)

-- a percentile of peaks is the greatest of the histograms
peak_of : (f : Peaks → ℕ) (num den : ℕ) → ((p : Peaks) (h : Plain) → f (peaks_with p h) ≡ max (f p) (value_at h num den)) → (hs : List Plain) (p : Peaks) → f (fold peaks_with p hs) ≡ fold (λ most h. max most (value_at h num den)) (f p) hs
peak_of f num den step [] p = refl
peak_of f num den step (h ∷ hs) p = peak_of f num den step hs (peaks_with p h) ∙ ap (λ most. fold (λ most h. max most (value_at h num den)) most hs) (step p h)

-- peaks that are kept up to date are the greatest percentiles
pub peaks_are : (hs : List Plain) → ArePeaksOf hs (fold peaks_with no_peaks hs)
peaks_are hs = record {
  p50 = peak_of (λ p. p.p50) 1 2 (λ p h. refl) hs no_peaks;
  p90 = peak_of (λ p. p.p90) 9 10 (λ p h. refl) hs no_peaks;
  p99 = peak_of (λ p. p.p99) 99 100 (λ p h. refl) hs no_peaks;
  p999 = peak_of (λ p. p.p999) 999 1000 (λ p h. refl) hs no_peaks;
  max = peak_of (λ p. p.max) 1 1 (λ p h. refl) hs no_peaks;
}
