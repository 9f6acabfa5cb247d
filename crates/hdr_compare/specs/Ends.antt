-- Which samples are the ends of the interval of a quantile: n samples, of which e count as independent ones, and a confidence with
-- the normal quantile z and the edge `edge`.
use Rattle.std.specs.Prelude.{ℕ, ◌+◌, ◌-◌, ◌*◌, ◌/◌, ◌^◌, ◌<◌, ◌≤◌}
use Rattle.std.specs.Int.{div_ceil}
use Rattle.hdr_base.specs.Fractions.{Ratio}
use Rattle.hdr_compare.specs.Ranks.{IsFarBelow, IsFarAbove}

-- by which power of two n samples are divided, so that they are at most 2^30: the least one
pub record IsShift (n shift : ℕ) : Type 0 where
  pub few : n ≤ 2 ^ (30 + shift)
  pub least : (t : ℕ) → t < shift → 2 ^ (30 + t) < n

-- rank k is far below the quantile, in these units
pub record IsRankFarBelow (n e : ℕ) (q : Ratio) (k z : ℕ) : Type 0 where
  pub shift : ℕ
  pub is_shift : IsShift n shift
  pub among : div_ceil k (2 ^ shift) ≤ n / 2 ^ shift
  pub far : IsFarBelow shift n e q k z

-- rank k is far above it
pub record IsRankFarAbove (n e : ℕ) (q : Ratio) (k z : ℕ) : Type 0 where
  pub shift : ℕ
  pub is_shift : IsShift n shift
  pub far : IsFarAbove shift n e q k z

-- the sample after `under` ones is below the quantile by more than chance
pub record IsFarLow (n e : ℕ) (q : Ratio) (under z : ℕ) : Type 0 where
  pub below : (under + 1) * q.den < q.num * n
  pub far : IsRankFarBelow n e q (under + 1) z

-- the last sample but one of `upto` ones is above the quantile by more than chance
pub record IsFarHigh (n e : ℕ) (q : Ratio) (upto z : ℕ) : Type 0 where
  pub above : q.num * n < (upto - 1) * q.den
  pub among : upto - 1 ≤ n
  pub far : IsRankFarAbove n e q (upto - 1) z

-- enough independent samples are expected below the quantile for the first sample to be the end of the interval
abbrev pub ReachesFirst : (e : ℕ) → Ratio → (edge : ℕ) → Type 0
ReachesFirst e q edge = edge * q.den ≤ 100 * (e * q.num)

-- enough are expected above it for the last sample to be the end
abbrev pub ReachesLast : (e : ℕ) → Ratio → (edge : ℕ) → Type 0
ReachesLast e q edge = edge * q.den ≤ 100 * (e * (q.den - q.num))
