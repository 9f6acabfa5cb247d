-- The figures of a histogram.
use Rattle.std.specs.Prelude.{◌≡◌, ℕ, ◌+◌, ◌-◌, ◌*◌, ◌^◌, List, Some, unwrap_or, max, min}
use Rattle.std.specs.List.{fold}
use Rattle.hdr_model.specs.Plain.{Plain, min_of}
use Rattle.hdr_model.specs.Quantiles.{value_at_quantile}
use Rattle.hdr_model.specs.Statistics.{mean}
use Rattle.hdr_figures.specs.Breaks.{without_breaks}
use Rattle.hdr_figures.specs.declared.figures.Figures.{Figures}
use Rattle.hdr_figures.specs.declared.figures.Peaks.{Peaks}
use Rattle.hdr_figures.specs.declared.figures.Total.{Total}
use Rattle.hdr_figures.specs.declared.timeline.Timeline.{Timeline}

-- the value at the quantile num / den
abbrev pub value_at : Plain → ℕ → ℕ → ℕ
value_at h num den = value_at_quantile h (record { num = num; den = den })

-- the figures are the library's, of one histogram
pub record AreFiguresOf (h : Plain) (f : Figures) : Type 0 where
  pub count : f.count ≡ h.total
  pub mean : f.mean ≡ mean h
  pub min : f.min ≡ min_of h
  pub p50 : f.p50 ≡ value_at h 1 2
  pub p90 : f.p90 ≡ value_at h 9 10
  pub p99 : f.p99 ≡ value_at h 99 100
  pub p999 : f.p999 ≡ value_at h 999 1000
  pub max : f.max ≡ value_at h 1 1

-- the greatest value at the quantile num / den of some histograms, and 0 if there are none
abbrev pub greatest_at : List Plain → ℕ → ℕ → ℕ
greatest_at all num den = fold (λ most h. max most (value_at h num den)) 0 all

-- the greatest percentiles of some histograms
pub record ArePeaksOf (all : List Plain) (p : Peaks) : Type 0 where
  pub p50 : p.p50 ≡ greatest_at all 1 2
  pub p90 : p.p90 ≡ greatest_at all 9 10
  pub p99 : p.p99 ≡ greatest_at all 99 100
  pub p999 : p.p999 ≡ greatest_at all 999 1000
  pub max : p.max ≡ greatest_at all 1 1

-- the greatest percentiles of no histogram, and those with one more
abbrev pub no_peaks : Peaks
no_peaks = record { p50 = 0; p90 = 0; p99 = 0; p999 = 0; max = 0 }

abbrev pub peaks_with : Peaks → Plain → Peaks
peaks_with p h = record {
  p50 = max p.p50 (value_at h 1 2);
  p90 = max p.p90 (value_at h 9 10);
  p99 = max p.p99 (value_at h 99 100);
  p999 = max p.p999 (value_at h 999 1000);
  max = max p.max (value_at h 1 1);
}

-- the number and the greatest of samples at a point of time, with those of a tag
abbrev pub with_samples : Total → (count greatest : ℕ) → Total
with_samples t count greatest = record { count = min (t.count + count) (2 ^ 64 - 1); max = Some (max (unwrap_or t.max 0) greatest) }

-- how long a point of time is: a step, or less if the log ends within it, but at least a millisecond
abbrev pub length_at : Timeline → ℕ → ℕ
length_at t point = max 1 (min t.step (without_breaks t.last t.breaks.items (t.last - t.first) - t.step * point))
