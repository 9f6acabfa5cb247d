-- A histogram whose total and marks are those of its numbers is one.
use Rattle.std.proofs.Common.{◌≡◌, ℕ, ◌-◌, ◌^◌, ◌<◌, ◌≤◌, Option, Some, None, IfSome, List, length, get_or, min, sum, arith}
use Rattle.std.specs.List.{All}
use Rattle.hdr_base.specs.Classes.{Resolution, resolution_of, bins_to}
use Rattle.hdr_model.specs.Plain.{Plain, IsPlain}
use Rattle.hdr_model.specs.Marks.{IsAbove, IsBelow, IsTopMark, IsLowerMark}
use Rattle.hdr_model.specs.Unfinished.{AreBinsFor}
use Rattle.hdr_model.proofs.MergingHolds.{place-in}

-- there is a bin for each class, so at least one
pub some-bins : (low high sigfig : ℕ) (numbers : List ℕ) → length numbers ≡ bins_to (resolution_of low sigfig) high → 0 < length numbers
unfolding bins_to
some-bins low high sigfig numbers whole = omega (arith, whole)

-- marks of numbers enclose all that are above 0
top-mark-in : (counts : List ℕ) (mark : Option ℕ) → IsTopMark counts mark → IfSome mark (λ i. i < length counts)
top-mark-in counts None t = tt
top-mark-in counts (Some m) t = place-in counts m t.0

lower-mark-in : (counts : List ℕ) (mark : Option ℕ) → IsLowerMark counts mark → IfSome mark (λ i. (0 < i) × (i < length counts))
lower-mark-in counts None t = tt
lower-mark-in counts (Some m) t = (t.0, place-in counts m t.1)

top-mark-above : (counts : List ℕ) (mark : Option ℕ) → IsTopMark counts mark → (i : ℕ) → IsAbove mark i → get_or counts i 0 ≡ 0
top-mark-above counts None t i a = t i
top-mark-above counts (Some m) t i a = t.1 i a

lower-mark-below : (counts : List ℕ) (mark : Option ℕ) → IsLowerMark counts mark → (i : ℕ) → IsBelow mark i → get_or counts i 0 ≡ 0
lower-mark-below counts None t i a = t i a
lower-mark-below counts (Some m) t i a = t.2 i a.0 a.1

pub closed-plain : (greatest : ℕ) (h : Plain) (block : ℕ) (scale : Resolution) → AreBinsFor h.low h.high h.sigfig scale (record { block = block; numbers = h.counts }) → All (λ n. n ≤ greatest) h.counts
    → h.total ≡ min (sum h.counts) (2 ^ 64 - 1) → IsTopMark h.counts h.top_mark → IsLowerMark h.counts h.lower_mark → IsPlain greatest h
closed-plain greatest h block scale b fit total top lower = record {
  scale = b.has_scale;
  high_fits = b.high_fits;
  wide = b.wide;
  bins = b.whole;
  numbers_fit = fit;
  total_fits = omega (arith, total);
  total_covers = omega (arith, total);
  empty = λ e. omega (arith, total);
  nothing = λ e. omega (arith, total);
  top_in_bins = top-mark-in h.counts h.top_mark top;
  lower_in_bins = lower-mark-in h.counts h.lower_mark lower;
  none_above = top-mark-above h.counts h.top_mark top;
  none_below = lower-mark-below h.counts h.lower_mark lower;
}
