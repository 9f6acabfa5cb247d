-- A histogram that was written and read again.
use Rattle.std.proofs.Common.{◌≡◌, ℕ, zero, suc, ◌-◌, ◌^◌, ◌<◌, ◌≤◌, min, List, [], ◌∷◌, length, sum, slice_index, All, Option, Some, None, IfSome, refl, sym, ap, ap₂, ◌∙◌, subst, arith}
use Rattle.hdr_base.specs.Classes.{resolution_of, reach_of, bins_to}
use Rattle.hdr_base.specs.Fractions.{Ratio}
use Rattle.hdr_model.specs.Quantiles.{value_at_quantile}
use Rattle.hdr_model.specs.Plain.{Plain, IsPlain, resolution, reach}
use Rattle.hdr_model.specs.Marks.{IsAbove, IsBelow, IsTopMark, IsLowerMark}
use Rattle.hdr_model.specs.Samples.{StandsFor, in_class}
use Rattle.hdrhistogram.specs.V2Read.{Contents, IsReadBack}

inside : (xs : List ℕ) (i : ℕ) → 0 < slice_index xs i → i < length xs
inside [] i h = absurd (omega (arith, h))
inside (x ∷ xs) zero h = omega arith
inside (x ∷ xs) (suc i) h = let less : i < length xs = inside xs i h in omega (arith, less)

top_inside : (xs : List ℕ) (mark : Option ℕ) → IsTopMark xs mark → IfSome mark (λ i. i < length xs)
top_inside xs None h = tt
top_inside xs (Some m) h = inside xs m h.0

lower_inside : (xs : List ℕ) (mark : Option ℕ) → IsLowerMark xs mark → IfSome mark (λ i. (0 < i) × (i < length xs))
lower_inside xs None h = tt
lower_inside xs (Some m) h = (h.0, inside xs m h.1)

above : (xs : List ℕ) (mark : Option ℕ) (i : ℕ) → IsTopMark xs mark → IsAbove mark i → slice_index xs i ≡ 0
above xs None i h a = h i
above xs (Some m) i h a = h.1 i a

below : (xs : List ℕ) (mark : Option ℕ) (i : ℕ) → IsLowerMark xs mark → IsBelow mark i → slice_index xs i ≡ 0
below xs None i h b = h i b
below xs (Some m) i h b = h.2 i b.0 b.1

same_low : (h k : Plain) → IsReadBack h k → k.low ≡ h.low
same_low h k r = ap (λ (c : Contents). c.low) r.contents

same_high : (h k : Plain) → IsReadBack h k → k.high ≡ h.high
same_high h k r = ap (λ (c : Contents). c.high) r.contents

same_sigfig : (h k : Plain) → IsReadBack h k → k.sigfig ≡ h.sigfig
same_sigfig h k r = ap (λ (c : Contents). c.sigfig) r.contents

same_counts : (h k : Plain) → IsReadBack h k → k.counts ≡ h.counts
same_counts h k r = ap (λ (c : Contents). c.counts) r.contents

pub same_classes : (h k : Plain) → IsReadBack h k → resolution k ≡ resolution h
same_classes h k r = ap₂ resolution_of (same_low h k r) (same_sigfig h k r)

pub read_plain : (greatest : ℕ) (h k : Plain) → IsPlain greatest h → IsReadBack h k → IsPlain greatest k
read_plain greatest h k p r =
    let low : k.low ≡ h.low = same_low h k r in
    let high : k.high ≡ h.high = same_high h k r in
    let sigfig : k.sigfig ≡ h.sigfig = same_sigfig h k r in
    let counts : k.counts ≡ h.counts = same_counts h k r in
    let total : k.total ≡ min (sum k.counts) (2 ^ 64 - 1) = r.restated.total in
    let bins : length k.counts ≡ bins_to (resolution k) k.high = ap (length {A = ℕ}) counts ∙ p.bins ∙ ap₂ bins_to (sym (same_classes h k r)) (sym high) in
    record {
      scale = rw (low, sigfig) p.scale;
      high_fits = rw high p.high_fits;
      wide = rw (low, high) p.wide;
      bins = bins;
      numbers_fit = rw counts p.numbers_fit;
      total_fits = omega (arith, total);
      total_covers = omega (arith, total);
      empty = λ e. omega (arith, total, e);
      nothing = λ e. omega (arith, total, e);
      top_in_bins = top_inside k.counts k.top_mark r.restated.top_mark;
      lower_in_bins = lower_inside k.counts k.lower_mark r.restated.lower_mark;
      none_above = λ i a. above k.counts k.top_mark i r.restated.top_mark a;
      none_below = λ i b. below k.counts k.lower_mark i r.restated.lower_mark b;
    }

pub read_stands : (h k : Plain) (S : List ℕ) → IsReadBack h k → StandsFor h S → sum h.counts ≡ length S → length S < 2 ^ 64 → StandsFor k S
unfolding reach
read_stands h k S r s whole few =
    let g = same_classes h k r in
    let counts : k.counts ≡ h.counts = same_counts h k r in
    let total : k.total ≡ min (sum h.counts) (2 ^ 64 - 1) = r.restated.total ∙ ap (λ c. min (sum c) (2 ^ 64 - 1)) counts in
    let reached : reach h ≡ reach k = ap₂ reach_of (sym g) (sym (same_high h k r)) in
    let L : List ℕ → Type 0 = λ c. (i : ℕ) → i < length c → slice_index c i ≡ in_class (resolution k) i S in
    let W : ℕ → Type 0 = λ m. All (λ x. x ≤ m) S in
    record {
      numbers = subst L (sym counts) (λ i lt. s.numbers i lt ∙ ap (λ f. in_class f i S) (sym g));
      within = subst W reached s.within;
      total = total ∙ omega (arith, whole, few);
    }

-- ---- what is read back has the same quantiles

same_answers : (h k : Plain) (q : Ratio) → k.counts ≡ h.counts → k.total ≡ h.total → resolution k ≡ resolution h → value_at_quantile k q ≡ value_at_quantile h q
unfolding value_at_quantile
same_answers h k q counts total classes = rw (counts, total, classes) refl

pub read_answers : (h k : Plain) (S : List ℕ) → IsReadBack h k → StandsFor h S → StandsFor k S → (k.total ≡ h.total) × ((q : Ratio) → value_at_quantile k q ≡ value_at_quantile h q)
read_answers h k S r s t =
    let total : k.total ≡ h.total = t.total ∙ sym s.total in
    (total, λ q. same_answers h k q (same_counts h k r) total (same_classes h k r))
