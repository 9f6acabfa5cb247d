-- A histogram as its iterators see it. (The Rust crate's iterators hold the histogram itself; this crate is below it.)
use Rattle.std.specs.Prelude.{◌≡◌, ℕ, ◌+◌, ◌-◌, ◌^◌, ◌<◌, ◌≤◌, min, List, length, take, sum, slice_index}
use Rattle.hdr_base.specs.Classes.{most_bins, Resolution, bin_of, value_of, top_of}

-- the classes, the number of each bin, how many samples there are, and the bin of the greatest value that counts as
-- recorded: the first if there is none
pub record Seen : Type 0 where
  pub resolution : Resolution
  pub numbers : List ℕ
  pub total : ℕ
  pub last : ℕ

-- a number, saturating at `u64::MAX`
abbrev pub capped : ℕ → ℕ
capped n = min n (2 ^ 64 - 1)

abbrev pub bins_in : Seen → ℕ
bins_in h = length h.numbers

-- the lowest and the greatest value of a bin
abbrev pub lowest_in : Seen → ℕ → ℕ
lowest_in h i = value_of h.resolution i

abbrev pub top_in : Seen → ℕ → ℕ
top_in h i = top_of h.resolution (value_of h.resolution i)

-- the bin of a value, or the last bin if the value lies past the bins
abbrev pub bin_or_last : Seen → ℕ → ℕ
bin_or_last h v = min (bin_of h.resolution v) (bins_in h - 1)

-- the sum of the numbers before bin i
abbrev pub below : Seen → ℕ → ℕ
below h i = sum (take i h.numbers)

-- the sum of the numbers up to bin i, up to `u64::MAX`
abbrev pub running : Seen → ℕ → ℕ
running h i = capped (below h (i + 1))

-- what is true of the bins of every histogram: they are classes of u64 values, and none after the last holds a sample
pub record AreBins (h : Seen) : Type 0 where
  pub some : 0 < length h.numbers
  pub few : length h.numbers ≤ most_bins
  pub digits : 0 < h.resolution.digits
  pub resolution_fits : h.resolution.unit + h.resolution.digits ≤ 63
  pub within : length h.numbers ≤ bin_of h.resolution (2 ^ 64 - 1) + 1
  pub total_fits : h.total < 2 ^ 64
  pub counted : capped (sum h.numbers) ≤ h.total
  pub last_inside : h.last < length h.numbers
  pub none_above : (i : ℕ) → h.last < i → slice_index h.numbers i ≡ 0

-- the numbers of the bins from a up to b are 0
abbrev pub AreEmpty : List ℕ → ℕ → ℕ → Type 0
AreEmpty numbers a b = (i : ℕ) → a ≤ i → i < b → slice_index numbers i ≡ 0
