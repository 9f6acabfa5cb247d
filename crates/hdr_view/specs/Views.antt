-- What lines and names show.
use Rattle.std.specs.Prelude.{◌≡◌, ◌⊎◌, ℕ, ◌+◌, ◌-◌, ◌^◌, ◌≤◌, ◌<◌, ◌==◌, if◌then◌else◌, List, Option, None, Some, IfSome, codes}
use Rattle.hdr_input.specs.Units.{exponent}
use Rattle.hdr_logs.specs.Stored.{decimals_of}
use Rattle.hdr_logs.specs.declared.stored.StoredInterval.{StoredInterval}
use Rattle.hdr_figures.specs.declared.figures.Peaks.{Peaks}
use Rattle.hdr_figures.specs.declared.level.PageLevel.{PageLevel}
use Rattle.hdr_verdict.specs.declared.level.TailLevel.{TailLevel}
use Rattle.hdr_view.specs.Amounts.{IsScale}
use Rattle.hdr_view.specs.declared.amount.Units.{Units}
use Rattle.hdr_view.specs.declared.view.Series.{Series}
use Rattle.hdr_view.specs.declared.view.Series.TheVariants.{P50, P90, P99, P999, Max}

-- the figure that a line shows
abbrev pub figure_of : Series → Peaks → ℕ
figure_of P50 p = p.p50
figure_of P90 p = p.p90
figure_of P99 p = p.p99
figure_of P999 p = p.p999
figure_of Max p = p.max

-- the name of samples without a tag, in a log of some tags
abbrev pub name_without_tag : ℕ → List ℕ
name_without_tag tags = if tags == 1 then codes "all samples" else codes "(no tag)"

-- the level of a quantile above 0, as one of the tail that the quantile leaves out; there is none of another quantile
abbrev pub IsLevelOf : PageLevel → Option TailLevel → Type 0
IsLevelOf l None = (l.num ≡ 0) ⊎ ((l.den < l.num) ⊎ (2 ^ 63 ≤ l.den))
IsLevelOf l (Some level) = (level.tail.num ≡ l.den - l.num) × (level.tail.den ≡ l.den) × (level.value ≡ l.value)

-- if an interval has a unit, some unit is shown, and a value of 1 is shown as what it is by the unit and the decimals of the interval
abbrev pub IsShownIn : Units → StoredInterval → Type 0
IsShownIn units i =
    decimals_of i ≤ 18 → IfSome i.unit (λ unit. (index : ℕ) × (units.unit ≡ Some index)
    × IsScale (decimals_of i + exponent unit) index units.times units.decimals)
