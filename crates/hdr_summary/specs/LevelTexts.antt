-- The texts of levels.
use Rattle.std.specs.Prelude.{◌≡◌, ℕ, Bool, true, false, List, ◌++◌, codes, Option, None}
use Rattle.hdr_input.specs.declared.number.Number.{Number}
use Rattle.hdr_input.specs.declared.unit.Unit.{Unit}
use Rattle.hdr_input.specs.Amounts.{IsAmountIn}
use Rattle.hdr_summary.specs.Percent.{IsPercentile}
use Rattle.hdr_summary.specs.declared.percentile.Percentile.{Percentile}
use Rattle.hdr_summary.specs.declared.levels.Measure.{Measure}
use Rattle.hdr_summary.specs.declared.levels.Measure.TheVariants.{Count, Min, Max, Mean, Quantile}
use Rattle.hdr_summary.specs.declared.levels.Side.{Side}
use Rattle.hdr_summary.specs.declared.levels.Side.TheVariants.{Below, AtMost, Above, AtLeast}

-- the sign of a side
abbrev pub sign_of : Side → List ℕ
sign_of Below = codes "<"
sign_of AtMost = codes "<="
sign_of Above = codes ">"
sign_of AtLeast = codes ">="

-- a text is the name of a figure
abbrev pub IsMeasureName : List ℕ → Measure → Type 0
IsMeasureName text Count = text ≡ codes "count"
IsMeasureName text Min = text ≡ codes "min"
IsMeasureName text Max = text ≡ codes "max"
IsMeasureName text Mean = text ≡ codes "mean"
IsMeasureName text (Quantile q) = (p : Percentile) × IsPercentile text p × (p.quantile ≡ q)

abbrev pub is_count : Measure → Bool
is_count Count = true
is_count measure = false

-- the amount of a level, which has no unit if it is of a count
abbrev pub IsLevelAmount : Bool → List ℕ → Option Unit → Option Unit → Number → Type 0
IsLevelAmount true text usual unit n = IsAmountIn text None None n
IsLevelAmount false text usual unit n = IsAmountIn text usual unit n

-- a text is a level of a figure, a side and a number: the name of the figure, the sign of the side, and the amount
pub record IsLevelText (text : List ℕ) (usual unit : Option Unit) (measure : Measure) (side : Side) (number : Number) : Type 0 where
  pub name : List ℕ
  pub amount : List ℕ
  pub whole : text ≡ name ++ (sign_of side ++ amount)
  pub is_name : IsMeasureName name measure
  pub is_amount : IsLevelAmount (is_count measure) amount usual unit number
