-- What is read from the numbers of a histogram. (`count_at`, `count_between`, `quantile_below`, `percentile_below`, `mean`:
-- those of the Rust crate are in floating point.)
use Rattle.std.specs.Prelude.{◌==◌, ℕ, suc, ◌+◌, ◌-◌, ◌*◌, ◌/◌, ◌^◌, ◌≤◌, ◌&&◌, nat_le, if◌then◌else◌, min, Option, Some, None, List, [], ◌∷◌, length, take, sum, count_by}
use Rattle.std.specs.List.{slice_range}
use Rattle.hdr_base.specs.Fractions.{Ratio}
use Rattle.hdr_base.specs.Classes.{Resolution, bin_of, lowest_of, width_of, value_of}
use Rattle.hdr_model.specs.Plain.{Plain, resolution}

-- the class that holds a value, or the last one if the value lies past the bins
unfoldable pub bin_or_last : Plain → ℕ → ℕ
bin_or_last h v = min (bin_of (resolution h) v) (length h.counts - 1)

-- the sum of the numbers from a value's class to another's
abbrev pub sum_between : Plain → ℕ → ℕ → ℕ
sum_between h a b = sum (slice_range h.counts (bin_or_last h a) (bin_or_last h b + 1))

-- how many samples lie from a value to another
abbrev pub samples_between : ℕ → ℕ → List ℕ → ℕ
samples_between a b S = count_by (λ s. nat_le a s && nat_le s b) S

-- the fraction of the samples that lie in a value's class or below it, and 1 in an empty histogram (`quantile_below`)
unfoldable pub quantile_below : Plain → ℕ → Ratio
quantile_below h v =
    if h.total == 0 then record { num = 1; den = 1 }
    else record { num = min (sum (take (bin_or_last h v + 1) h.counts)) (2 ^ 64 - 1); den = h.total }

-- a fraction times 100
abbrev pub in_hundredths : Ratio → Ratio
in_hundredths q = record { num = q.num * 100; den = q.den }

-- a fraction is at most another
abbrev pub IsAtMost : Ratio → Ratio → Type 0
IsAtMost p q = p.num * q.den ≤ q.num * p.den

-- the value half a width above the lowest of the class of v (`median_equivalent`)
abbrev pub median_of : Resolution → ℕ → ℕ
median_of g v = lowest_of g v + width_of g v / 2

-- the sum of numbers that start at class k, each times the median value of its class
abbrev pub weight_from : Resolution → ℕ → List ℕ → ℕ
weight_from g k [] = 0
weight_from g k (n ∷ ns) = median_of g (value_of g k) * n + weight_from g (suc k) ns

-- the mean of the samples, each taken as the median of its class: 0 without samples, and none if the total is `u64::MAX`
unfoldable pub mean : Plain → Option Ratio
mean h =
    if h.total == 2 ^ 64 - 1 then None
    else (if h.total == 0 then Some (record { num = 0; den = 1 }) else Some (record { num = weight_from (resolution h) 0 h.counts; den = h.total }))
