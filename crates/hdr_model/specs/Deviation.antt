-- How far samples are from their mean. (`stdev`: that of the Rust crate is in floating point.)
use Rattle.std.specs.Prelude.{◌≡◌, ℕ, suc, ◌+◌, ◌-◌, ◌*◌, ◌<◌, ◌≤◌, max, List, [], ◌∷◌}
use Rattle.hdr_base.specs.Fractions.{Ratio}
use Rattle.hdr_base.specs.Classes.{Resolution, value_of}
use Rattle.hdr_model.specs.Plain.{Plain, resolution}
use Rattle.hdr_model.specs.Statistics.{median_of, weight_from}

-- the sum of numbers that start at class k, each times the square of the median value of its class
abbrev pub squares_from : Resolution → ℕ → List ℕ → ℕ
squares_from g k [] = 0
squares_from g k (n ∷ ns) = median_of g (value_of g k) * median_of g (value_of g k) * n + squares_from g (suc k) ns

-- the variance of the samples, each taken as the median of its class, times the square of the total
abbrev pub scaled_variance : Plain → ℕ
scaled_variance h =
    let sum = weight_from (resolution h) 0 h.counts in
    squares_from (resolution h) 0 h.counts * h.total - sum * sum

-- the square root of n, rounded down
pub record IsRoot (n root : ℕ) : Type 0 where
  pub at_most : root * root ≤ n
  pub next : n < (root + 1) * (root + 1)

-- the root of the variance, rounded down to a fraction over the total: 0/1 without samples
pub record IsDeviation (h : Plain) (deviation : Ratio) : Type 0 where
  pub num : IsRoot (scaled_variance h) deviation.num
  pub den : deviation.den ≡ max 1 h.total
