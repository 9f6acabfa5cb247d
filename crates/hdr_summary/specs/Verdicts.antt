-- Whether samples keep levels.
use Rattle.std.specs.Prelude.{◌≡◌, ℕ, ◌*◌, ◌-◌, ◌<◌, ◌≤◌, ◌==◌, if◌then◌else◌, min, List, length}
use Rattle.std.specs.Int.{div_ceil}
use Rattle.hdr_base.specs.Fractions.{Ratio}
use Rattle.hdr_model.specs.Quantiles.{rank}
use Rattle.hdr_input.specs.declared.number.Number.{Number}
use Rattle.hdr_input.specs.Bounds.{count_within}
use Rattle.hdr_summary.specs.Levels.{bound_of}
use Rattle.hdr_summary.specs.declared.levels.Side.{Side}
use Rattle.hdr_summary.specs.declared.levels.Side.TheVariants.{Below, AtMost, Above, AtLeast}
use Rattle.hdr_summary.specs.declared.levels.Measure.{Measure}
use Rattle.hdr_summary.specs.declared.levels.Measure.TheVariants.{Count, Min, Max, Mean, Quantile}
use Rattle.hdr_summary.specs.declared.verdicts.Verdict.{Verdict}
use Rattle.hdr_summary.specs.declared.verdicts.Verdict.TheVariants.{Kept, Broken, Undecided, Few}

-- the rank of the sample that is measured, of n in ascending order; a mean is one value
abbrev pub rank_of : Measure → ℕ → ℕ
rank_of Count n = 1
rank_of Min n = 1
rank_of Max n = n
rank_of Mean n = 1
rank_of (Quantile q) n = rank q n

-- the sample of a rank is on a side of a level: of all samples, `sure` are surely within its bound, and `perhaps` may be
abbrev pub IsOn : Side → ℕ → ℕ → ℕ → Type 0
IsOn Below r sure perhaps = r ≤ sure
IsOn AtMost r sure perhaps = r ≤ sure
IsOn Above r sure perhaps = perhaps < r
IsOn AtLeast r sure perhaps = perhaps < r

-- it is on the other side
abbrev pub IsOff : Side → ℕ → ℕ → ℕ → Type 0
IsOff Below r sure perhaps = perhaps < r
IsOff AtMost r sure perhaps = perhaps < r
IsOff Above r sure perhaps = r ≤ sure
IsOff AtLeast r sure perhaps = r ≤ sure

-- how many samples are needed so that one is expected beyond a quantile, and 0 for a quantile of 0 or 1
abbrev pub needed_of : Measure → ℕ
needed_of (Quantile q) = if min q.num (q.den - q.num) == 0 then 0 else div_ceil q.den (min q.num (q.den - q.num))
needed_of measure = 0

-- all samples are on the side of a quantile's level where so few of them are likely to be
abbrev pub AreLikely : Ratio → Side → ℕ → ℕ → ℕ → Type 0
AreLikely q Below n sure perhaps = (q.den ≤ 2 * q.num) × (sure ≡ n)
AreLikely q AtMost n sure perhaps = (q.den ≤ 2 * q.num) × (sure ≡ n)
AreLikely q Above n sure perhaps = (2 * q.num ≤ q.den) × (perhaps ≡ 0)
AreLikely q AtLeast n sure perhaps = (2 * q.num ≤ q.den) × (perhaps ≡ 0)

-- so few samples say nothing of a level
abbrev pub IsFew : Measure → Side → ℕ → ℕ → ℕ → Type 0
IsFew (Quantile q) side n sure perhaps = (n < needed_of (Quantile q)) × AreLikely q side n sure perhaps
IsFew measure side n sure perhaps = ⊥

-- the verdict of n samples on a level, of which `sure` are surely within its bound, and `perhaps` may be
abbrev pub IsVerdict : Measure → Side → ℕ → ℕ → ℕ → Verdict → Type 0
IsVerdict measure side n sure perhaps Few = IsFew measure side n sure perhaps
IsVerdict measure side n sure perhaps Kept = IsOn side (rank_of measure n) sure perhaps × (IsFew measure side n sure perhaps → ⊥)
IsVerdict measure side n sure perhaps Broken = IsOff side (rank_of measure n) sure perhaps × (IsFew measure side n sure perhaps → ⊥)
IsVerdict measure side n sure perhaps Undecided = (sure < rank_of measure n) × (rank_of measure n ≤ perhaps)

-- what numbers say of a level: how many of them are within its bound is known
abbrev pub IsVerdictOf : Measure → Side → Number → List Number → Verdict → Type 0
IsVerdictOf measure side number S verdict =
    IsVerdict measure side (length S) (count_within (bound_of side number) S) (count_within (bound_of side number) S) verdict

-- a verdict that is either kept, if a fact holds, or broken
abbrev pub MatchVerdict : Verdict → Type 0 → Type 0
MatchVerdict Kept P = P
MatchVerdict Broken P = P → ⊥
MatchVerdict Undecided P = ⊥
MatchVerdict Few P = ⊥
