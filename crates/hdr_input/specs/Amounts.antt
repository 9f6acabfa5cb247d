-- Amounts, such as `200`, `1.5ms` or `1m30s`, in the unit of an input.
use Rattle.std.specs.Prelude.{◌≡◌, ◌⊎◌, ℕ, List, ◌++◌, Option, Some, None}
use Rattle.std.specs.Option.{option_or}
use Rattle.hdr_input.specs.declared.number.Number.{Number}
use Rattle.hdr_input.specs.declared.unit.Unit.{Unit}
use Rattle.hdr_input.specs.Decimals.{IsText, IsNarrowed}
use Rattle.hdr_input.specs.Durations.{IsDuration}
use Rattle.hdr_input.specs.Units.{IsSameTime, unit_name}

-- a number, and the name of its unit after it, if it has one
abbrev pub with_name : List ℕ → Option Unit → List ℕ
with_name number None = number
with_name number (Some unit) = number ++ unit_name unit

-- a number of a unit in the unit of the input; one without a unit stays as it is, and one with a unit has none if the input has none
abbrev pub IsInUnit : Number → Option Unit → Option Unit → Number → Type 0
IsInUnit x None to n = x ≡ n
IsInUnit x (Some from) None n = ⊥
IsInUnit x (Some from) (Some to) n = IsSameTime x from n to

-- a text is a number, which is exactly this
abbrev pub IsExact : List ℕ → Number → Type 0
IsExact text x = (written : Number) × IsText text written × IsNarrowed None written x

-- a text is one number, in the unit after it or else the usual one, which is this in the unit of the input
abbrev pub IsSingleAmount : List ℕ → Option Unit → Option Unit → Number → Type 0
IsSingleAmount text usual to n =
    (number : List ℕ) × (unit : Option Unit) × (x : Number) × (text ≡ with_name number unit) × IsExact number x × IsInUnit x (option_or unit usual) to n

-- a text is a duration, which is this in the unit of the input
abbrev pub IsDurationIn : List ℕ → Option Unit → Number → Type 0
IsDurationIn text to n = (unit : Unit) × (to ≡ Some unit) × IsDuration text n unit

-- a text is an amount, one number or a duration, which is this in the unit of the input
abbrev pub IsAmountIn : List ℕ → Option Unit → Option Unit → Number → Type 0
IsAmountIn text usual to n = IsSingleAmount text usual to n ⊎ IsDurationIn text to n
