-- As how many independent samples the samples of batches count.
use Rattle.std.specs.Prelude.{ℕ, ◌+◌, ◌-◌, ◌*◌, ◌/◌, ◌==◌, ◌||◌, nat_lt, nat_le, if◌then◌else◌, max, min, List, length}
use Rattle.std.specs.Int.{div_ceil}
use Rattle.std.specs.List.{sum_by}
use Rattle.hdr_compare.specs.Tiers.{student_of}
use Rattle.hdr_compare.specs.declared.tiers.Tier.{Tier}
use Rattle.hdr_compare.specs.declared.batch.Batch.{Batch}

abbrev pub square : ℕ → ℕ
square a = a * a

-- how far the count of a batch is from its part of the counts of all, in sixteenths of a sample: c of n samples are counted
abbrev pub distance : (n c : ℕ) → Batch → ℕ
distance n c b = 16 * ((b.count * n - b.size * c) + (b.size * c - b.count * n)) / n

-- the sum of the squares of these distances
abbrev pub spread : (n c : ℕ) → List Batch → ℕ
spread n c batches = sum_by (λ b. square (distance n c b)) batches

-- as how many batches of one size batches count, rounded up, of n samples in all: the square of the sum of their sizes over the sum of
-- their squares, as the effective number of samples of unequal weights (Kish 1965)
abbrev pub even_batches : (n : ℕ) → List Batch → ℕ
even_batches n batches = min (length batches) (div_ceil (square n) (sum_by (λ b. square b.size) batches))

-- n samples, of which c meet a condition, in k batches: as many times fewer as the counts of batches vary more than those of independent
-- samples. Fewer than four batches do not show how these vary: then they count as one
abbrev pub effective_of : Tier → (n c s k : ℕ) → ℕ
effective_of tier n c s k =
    if c == 0 || (nat_le n c || s == 0) then n
    else if nat_lt k 4 then 1
    else min n (max 1 (256000 * c * (n - c) * (k - 1) / (s * k * student_of tier k)))

-- the same of some batches. Samples that come in fewer than four batches are taken as independent
unfoldable pub effective_size : Tier → List Batch → ℕ
effective_size tier batches =
    let n = sum_by (λ b. b.size) batches in
    let c = sum_by (λ b. b.count) batches in
    if nat_lt (length batches) 4 then n else effective_of tier n c (spread n c batches) (even_batches n batches)
