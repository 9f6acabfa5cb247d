-- Samples that are only known by their classes, and levels.
use Rattle.std.specs.Prelude.{⊤, ◌≡◌, ℕ, ◌*◌, ◌-◌, ◌^◌, ◌<◌, min, List, length, map, count_by}
use Rattle.std.specs.List.{All}
use Rattle.hdr_base.specs.Classes.{Resolution, lowest_of, top_of}
use Rattle.hdr_input.specs.declared.number.Number.{Number}
use Rattle.hdr_input.specs.declared.bound.Bound.{Bound}
use Rattle.hdr_input.specs.Bounds.{is_within, count_within, of_decimals, of_units, IsMost}
use Rattle.hdr_summary.specs.declared.classes.ClassCounts.{ClassCounts}
use Rattle.hdr_summary.specs.declared.verdicts.LevelCounts.{LevelCounts}
use Rattle.hdr_summary.specs.declared.levels.Side.{Side}
use Rattle.hdr_summary.specs.declared.levels.Measure.{Measure}
use Rattle.hdr_summary.specs.declared.verdicts.Verdict.{Verdict}
use Rattle.hdr_summary.specs.declared.verdicts.Verdict.TheVariants.{Kept, Broken, Undecided, Few}
use Rattle.hdr_summary.specs.Levels.{bound_of}
use Rattle.hdr_summary.specs.Verdicts.{rank_of, IsOn, IsOff, IsFew, IsVerdict}

-- a sample, the resolution of its class, and how many units its own unit is
pub record Known : Type 0 where
  pub value : ℕ
  pub resolution : Resolution
  pub factor : ℕ

-- a sample in units, and the lowest and the greatest value of its class
abbrev pub in_units : Known → ℕ
in_units x = x.factor * x.value

abbrev pub lowest_in_units : Known → ℕ
lowest_in_units x = x.factor * lowest_of x.resolution x.value

abbrev pub greatest_in_units : Known → ℕ
greatest_in_units x = x.factor * top_of x.resolution x.value

-- a sample that is known by its class
abbrev pub known : ℕ → Resolution → ℕ → Known
known factor g s = record { value = s; resolution = g; factor = factor }

-- samples that are known by the classes of one resolution
abbrev pub known_by : ℕ → Resolution → List ℕ → List Known
known_by factor g S = map (known factor g) S

-- the classes of samples fit 64 bits in units
abbrev pub FitUnits : ℕ → Resolution → List ℕ → Type 0
FitUnits factor g S = All (λ s. factor * top_of g s < 2 ^ 64) S

-- the samples themselves, in units of 10 ^ -decimals
abbrev pub numbers_of : ℕ → List Known → List Number
numbers_of decimals L = of_units decimals (map in_units L)

-- how many samples are surely within a bound: the greatest value of their class is
abbrev pub count_surely : Bound → ℕ → List Known → ℕ
count_surely b decimals L = count_by (λ x. is_within b (of_decimals decimals (greatest_in_units x))) L

-- how many samples are perhaps within a bound: the lowest value of their class is
abbrev pub count_perhaps : Bound → ℕ → List Known → ℕ
count_perhaps b decimals L = count_by (λ x. is_within b (of_decimals decimals (lowest_in_units x))) L

-- these samples were counted at a bound, each by its class, as far as 64 bits hold their numbers
pub record AreByClass (c : LevelCounts) (b : Bound) (decimals : ℕ) (L : List Known) : Type 0 where
  pub total : c.total ≡ min (length L) (2 ^ 64 - 1)
  pub sure : c.sure ≡ min (count_surely b decimals L) (2 ^ 64 - 1)
  pub perhaps : c.perhaps ≡ min (count_perhaps b decimals L) (2 ^ 64 - 1)

-- these samples were added to the counts at a bound of values of these decimals
pub record HasClasses (c : ClassCounts) (b : Bound) (decimals : ℕ) (L : List Known) : Type 0 where
  pub most : IsMost b decimals c.most
  pub counts : AreByClass c.counts b decimals L

-- what a verdict says of samples of which this many are within the bound of a level
abbrev pub IsTrueOf : Measure → Side → ℕ → ℕ → Verdict → Type 0
IsTrueOf measure side n within Kept = IsOn side (rank_of measure n) within within
IsTrueOf measure side n within Broken = IsOff side (rank_of measure n) within within
IsTrueOf measure side n within Few = IsFew measure side n within within
IsTrueOf measure side n within Undecided = ⊤

-- the verdict of samples by their classes, which is true of the samples themselves
pub record IsVerdictByClass (measure : Measure) (side : Side) (number : Number) (decimals : ℕ) (L : List Known) (verdict : Verdict) : Type 0 where
  pub classes : IsVerdict measure side (length L) (count_surely (bound_of side number) decimals L) (count_perhaps (bound_of side number) decimals L) verdict
  pub samples : IsTrueOf measure side (length L) (count_within (bound_of side number) (numbers_of decimals L)) verdict
