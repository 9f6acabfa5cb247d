-- What is usual for a tag: the lower quartile of the values of a tail, over blocks of its cells.
use Rattle.std.specs.Prelude.{ℕ, ◌+◌, ◌*◌, ◌/◌, ◌^◌, ◌-◌, ◌==◌, nat_le, nat_lt, if◌then◌else◌, max, min, List, [], ◌∷◌, ◌++◌, length, map, slice_index, Option, Some, None}
use Rattle.std.specs.Int.{div_ceil}
use Rattle.hdr_model.specs.Quantiles.{sorted}
use Rattle.hdr_verdict.specs.Tails.{tail_value}
use Rattle.hdr_verdict.specs.declared.usual.Usual.{Usual}

-- the least number of samples of a block: 20 are in the tail, and there are at most 64 blocks of n samples
abbrev pub least_block : (num den n : ℕ) → ℕ
least_block num den n = max (div_ceil (20 * den) (max 1 num)) (div_ceil n 64)

-- the samples of the shortest runs of cells, one after the other, that have at least `least` samples. Those before the
-- first cell are of an unfinished run, and what is left at the end is dropped
abbrev pub blocks_from : ℕ → List ℕ → List (List ℕ) → List (List ℕ)
blocks_from least S [] = []
blocks_from least S (cell ∷ cells) = if nat_le least (length (S ++ cell)) then (S ++ cell) ∷ blocks_from least [] cells else blocks_from least (S ++ cell) cells

-- the element at a quarter of the length, in ascending order
unfoldable pub lower_quartile : List ℕ → ℕ
lower_quartile values = slice_index (sorted values) (length values / 4)

-- the lower quartiles over blocks
abbrev pub usual_of_blocks : (num den : ℕ) → List (List ℕ) → Option Usual
usual_of_blocks num den blocks =
    if nat_lt (length blocks) 4 then None
    else Some (record { value = lower_quartile (map (tail_value num den) blocks); half = lower_quartile (map (tail_value num (2 * den)) blocks) })

-- what is usual in cells with these samples; none if there are fewer than four blocks, or no tail
unfoldable pub usual_of : (num den n : ℕ) → List (List ℕ) → Option Usual
usual_of num den n cells = if num == 0 then None else usual_of_blocks num den (blocks_from (least_block num den n) [] cells)

-- the threshold of slow samples: half more than usual, and so far that at usual times at most half of the tail is above it
abbrev pub threshold_of : Usual → ℕ
threshold_of u = min (max (max (3 * u.value / 2) u.half) (u.value + 1)) (2 ^ 64 - 1)
