-- Tails of samples: how many samples are above a value, and the value that leaves a tail above it.
use Rattle.std.specs.Prelude.{ℕ, ◌-◌, ◌*◌, ◌≤◌, nat_lt, List, length, count_by}
use Rattle.hdr_base.specs.Fractions.{Ratio}
use Rattle.hdr_model.specs.Quantiles.{ranked_sample}

-- the quantile that leaves out num / den of the samples, the greatest ones
abbrev pub quantile_without : (num den : ℕ) → Ratio
quantile_without num den = record { num = den - num; den = den }

-- the value of a tail: the sample at that quantile, or 0 without samples
unfoldable pub tail_value : (num den : ℕ) → List ℕ → ℕ
tail_value num den S = ranked_sample (quantile_without num den) S

-- how many of samples are above a value
unfoldable pub count_above : ℕ → List ℕ → ℕ
count_above v S = count_by (nat_lt v) S

-- at most num / den of the samples are above a value
abbrev pub LeavesTail : (num den : ℕ) → List ℕ → ℕ → Type 0
LeavesTail num den S v = den * count_above v S ≤ num * length S
