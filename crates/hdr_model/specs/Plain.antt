-- A histogram as numbers alone. (Fields and read-outs of the Rust crate's `Histogram`: a vector of counters, a total and two
-- marks; here are only the numbers of the counters.)
use Rattle.std.specs.Prelude.{◌≡◌, ◌==◌, ℕ, ◌-◌, ◌*◌, ◌^◌, ◌<◌, ◌≤◌, Bool, ◌||◌, nat_lt, if◌then◌else◌, min, Option, None, IfSome, List, length, replicate, slice_index, All, sum}
use Rattle.hdr_base.specs.Classes.{Resolution, resolution_of, reach_of, bins_to, HasScale}
use Rattle.hdr_model.specs.Marks.{IsAbove, IsBelow, top_of_mark, value_of_mark}

-- the bounds; a number for each bin; the number of samples; the top mark: no class above it holds samples; the lower mark: no
-- class below it but class 0 does
pub record Plain : Type 0 where
  pub low : ℕ
  pub high : ℕ
  pub sigfig : ℕ
  pub auto_resize : Bool
  pub counts : List ℕ
  pub total : ℕ
  pub top_mark : Option ℕ
  pub lower_mark : Option ℕ

-- the unit and the digits of the classes
abbrev pub resolution : Plain → Resolution
resolution h = resolution_of h.low h.sigfig

-- the greatest value that has a bin
unfoldable pub reach : Plain → ℕ
reach h = reach_of (resolution h) h.high

-- how many bins a block holds: half as many as the first bucket
abbrev pub block_of : Plain → ℕ
block_of h = 2 ^ ((resolution h).digits - 1)

-- what is true of every histogram, for counters that go up to the greatest
pub record IsPlain (greatest : ℕ) (h : Plain) : Type 0 where
  pub scale : HasScale h.low h.sigfig
  pub high_fits : h.high < 2 ^ 64
  pub wide : 2 * h.low ≤ h.high
  pub bins : length h.counts ≡ bins_to (resolution h) h.high
  pub numbers_fit : All (λ n. n ≤ greatest) h.counts
  pub total_fits : h.total < 2 ^ 64
  pub total_covers : min (sum h.counts) (2 ^ 64 - 1) ≤ h.total
  -- the total is 0 exactly if all counters are
  pub empty : h.total ≡ 0 → sum h.counts ≡ 0
  pub nothing : sum h.counts ≡ 0 → h.total ≡ 0
  pub top_in_bins : IfSome h.top_mark (λ i. i < length h.counts)
  pub lower_in_bins : IfSome h.lower_mark (λ i. (0 < i) × (i < length h.counts))
  pub none_above : (i : ℕ) → IsAbove h.top_mark i → slice_index h.counts i ≡ 0
  pub none_below : (i : ℕ) → IsBelow h.lower_mark i → slice_index h.counts i ≡ 0

-- the greatest value that counts as recorded (`max`)
unfoldable pub max_of : Plain → ℕ
max_of h = top_of_mark (resolution h) h.top_mark

-- the lowest value of the lower mark's class: the first of the recorded classes other than class 0; `u64::MAX` for none (`min_nz`)
unfoldable pub min_nz_of : Plain → ℕ
min_nz_of h = value_of_mark (resolution h) h.lower_mark

-- the lowest value that counts as recorded (`min`)
unfoldable pub min_of : Plain → ℕ
min_of h = if (h.total == 0) || nat_lt 0 (slice_index h.counts 0) then 0 else min_nz_of h

-- a histogram of those bounds in which nothing was recorded (`new_with_bounds`)
unfoldable pub empty_plain : ℕ → ℕ → ℕ → Bool → Plain
empty_plain low high sigfig auto_resize = record {
  low = low;
  high = high;
  sigfig = sigfig;
  auto_resize = auto_resize;
  counts = replicate (bins_to (resolution_of low sigfig) high) 0;
  total = 0;
  top_mark = None;
  lower_mark = None;
}

-- what is true of every histogram
abbrev pub OfEachPlain : (ℕ → Plain → Type 0) → Type 0
OfEachPlain P = (greatest : ℕ) (h : Plain) → IsPlain greatest h → P greatest h
