-- A list of numbers in blocks of one length: its sums, the first index at which they reach a rank,
-- and the capped sums of two lists. (No item of the Rust crate: it keeps its counters in one vector
-- and adds them up whenever it needs a sum.)
use Rattle.std.specs.Prelude.{◌≡◌, ℕ, ◌+◌, ◌-◌, ◌*◌, ◌/◌, ◌%◌, ◌^◌, ◌<◌, ◌≤◌, min, List, ◌∷◌, ◌++◌, length, replicate, take, sum, slice_index, slice_set, All, Option, Some, None, IfSome, nat_le, ◌&&◌, ◌==◌, nat_lt, if◌then◌else◌}
use Rattle.hdr_base.specs.Classes.{most_bins}

-- the length of a block, and all numbers in order
pub record Blocks : Type 0 where
  pub block : ℕ
  pub numbers : List ℕ

-- the sum of the numbers before index i
abbrev pub sum_below : List ℕ → ℕ → ℕ
sum_below numbers i = sum (take i numbers)

-- i is the first index at which the running sum reaches the rank
abbrev pub IsFirstToReach : List ℕ → ℕ → ℕ → Type 0
IsFirstToReach numbers rank i =
    (i < length numbers) × (sum_below numbers i < rank) × (rank ≤ sum_below numbers (i + 1))

-- all numbers are 0
abbrev pub AreZeros : List ℕ → Type 0
AreZeros numbers = (i : ℕ) → slice_index numbers i ≡ 0

-- m is the index of the last nonzero number
abbrev pub IsLastNonzero : List ℕ → ℕ → Type 0
IsLastNonzero numbers m = (0 < slice_index numbers m) × ((i : ℕ) → m < i → slice_index numbers i ≡ 0)

-- m is the index of the first nonzero number
abbrev pub IsFirstNonzero : List ℕ → ℕ → Type 0
IsFirstNonzero numbers m = (0 < slice_index numbers m) × ((i : ℕ) → i < m → slice_index numbers i ≡ 0)

-- numbers that are searched for ranks in ascending order, and the sum of those that were skipped
pub record Searched : Type 0 where
  pub numbers : List ℕ
  pub passed : ℕ

-- the ticks to find index i: one for the sum of each block up to its own, then one for each number
-- of that block up to i. If no index is found, one for the sum of each block
abbrev pub looks : ℕ → ℕ → Option ℕ → ℕ
looks block places None = places / block
looks block places (Some i) = i / block + 1 + (i % block + 1)

-- two lists added element by element, each sum at most the greatest; numbers past the end of the
-- second count as 0
abbrev pub capped_sums : ℕ → List ℕ → List ℕ → List ℕ
capped_sums greatest (m ∷ ms) (n ∷ ns) = min (m + n) greatest ∷ capped_sums greatest ms ns
capped_sums greatest ms ns = ms

-- `section`, if a block is at least `least` long and a multiple of `section`; `otherwise` if not
unfoldable pub parted : ℕ → ℕ → ℕ → ℕ → ℕ
parted block least section otherwise = if nat_le least block && block % section == 0 then section else otherwise

-- the length of the sections of a block that has sections of its own: a long block has several
unfoldable pub own_section : ℕ → ℕ
own_section block = parted block 131072 4096 (parted block 16384 1024 (parted block 1024 256 block))

-- the length of the sections of `len` numbers, of each of which a sum is kept: all short blocks together are one section
unfoldable pub section_of : ℕ → ℕ → ℕ
section_of block len = if nat_lt block 32 && nat_lt 0 len then len else own_section block

-- the index of the first number of section k
abbrev pub section_start : Blocks → ℕ → ℕ
section_start b k = k * section_of b.block (length b.numbers)

-- the sum of the numbers before section k
abbrev pub sum_before : Blocks → ℕ → ℕ
sum_before b k = sum_below b.numbers (section_start b k)

-- section k is one of the sections
abbrev pub HasSection : Blocks → ℕ → Type 0
HasSection b k = section_start b (k + 1) ≤ length b.numbers

-- blocks of one length, in sections, and the length of a list of complete blocks
pub record AreSections (block section len : ℕ) : Type 0 where
  pub some : 1 ≤ block
  pub section_is : section ≡ section_of block len
  pub whole : len % block ≡ 0

-- the sums are those of the numbers' sections, of this length: each one is what its section adds to
-- the sum before it
pub record AreSums (section : ℕ) (numbers sums : List ℕ) : Type 0 where
  pub some : 1 ≤ section
  pub few : length numbers ≤ most_bins
  pub whole : length numbers ≡ length sums * section
  pub each : (k : ℕ) → k < length sums → sum_below numbers (k * section) + slice_index sums k ≡ sum_below numbers ((k + 1) * section)
  pub fits : All (λ n. n ≤ 18446744073709551615) numbers

-- the binary exponent of a length that is a power of two, if it is kept
abbrev pub IsShift : ℕ → Option ℕ → Type 0
IsShift len shift = IfSome shift (λ s. (s < 64) × (len ≡ 2 ^ s))

-- what is true of counters in blocks: their sums are those of the blocks' sections, the exponent is a section's, and no number
-- is above the greatest counter
pub record AreHeld (greatest block section : ℕ) (numbers sums : List ℕ) (shift : Option ℕ) : Type 0 where
  pub sections : AreSections block section (length numbers)
  pub sums_are : AreSums section numbers sums
  pub shift_is : IsShift section shift
  pub fit : All (λ n. n ≤ greatest) numbers

-- numbers, zero-filled to a length
abbrev pub with_zeros : List ℕ → ℕ → List ℕ
with_zeros numbers len = numbers ++ replicate (len - length numbers) 0

-- blocks of zeros
abbrev pub zero_blocks : ℕ → ℕ → Blocks
zero_blocks blocks block = record { block = block; numbers = replicate (blocks * block) 0 }

-- the numbers, and zeros up to a number of blocks
abbrev pub grown_to : Blocks → ℕ → Blocks
grown_to b blocks = record { block = b.block; numbers = with_zeros b.numbers (blocks * b.block) }

-- the same number of zeros
abbrev pub cleared : Blocks → Blocks
cleared b = record { block = b.block; numbers = replicate (length b.numbers) 0 }

-- the numbers, with n at index i
abbrev pub with_number : Blocks → ℕ → ℕ → Blocks
with_number b i n = record { block = b.block; numbers = slice_set b.numbers i n }

-- what is true of counters that are being set: the first are in the list, and the others are 0. The
-- capacity is enough for all, and the sums are those of the sections, of this length
pub record AreOpen (greatest section len capacity : ℕ) (numbers sums : List ℕ) (shift : Option ℕ) : Type 0 where
  pub some : 1 ≤ section
  pub few : len ≤ most_bins
  pub whole : len ≡ length sums * section
  pub within : length numbers ≤ len
  pub room : len ≤ capacity
  pub kept : AreSums section (with_zeros numbers len) sums
  pub shift_is : IsShift section shift
  pub fit : All (λ n. n ≤ greatest) numbers

-- from index `next` on all numbers are 0, and the indices from there to `end` lie in section k.
-- Before index `first` all numbers are 0, but for number 0
pub record IsAt (section k next end first : ℕ) (numbers : List ℕ) : Type 0 where
  pub rest : (j : ℕ) → next ≤ j → slice_index numbers j ≡ 0
  pub from : k * section ≤ next
  pub to : end ≤ (k + 1) * section
  pub at_hand : end ≤ length numbers
  pub within : next ≤ length numbers
  pub some : 0 < first
  pub low : (j : ℕ) → 0 < j → j < first → slice_index numbers j ≡ 0
  pub order : next < end → first ≤ next
