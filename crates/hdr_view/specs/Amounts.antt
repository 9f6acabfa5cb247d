-- Values with their units. A unit of time is 1,000 times as long as the one before: ns, µs, ms, s.
use Rattle.std.specs.Prelude.{◌≡◌, ℕ, zero, suc, ◌+◌, ◌-◌, ◌*◌, ◌^◌, ◌<◌, ◌≤◌, List, [], ◌∷◌, ◌++◌, Option, None, Some, IfSome, codes}
use Rattle.hdr_draw.specs.Numbers.{IsDecimalOf, exponent, grouped}

-- the name of a unit
abbrev pub unit_name : ℕ → List ℕ
unit_name zero = codes "ns"
unit_name (suc zero) = 194 ∷ 181 ∷ codes "s"
unit_name (suc (suc zero)) = codes "ms"
unit_name (suc (suc (suc _))) = codes "s"

-- the length of a unit in nanoseconds
abbrev pub nanos_of : ℕ → ℕ
nanos_of zero = 1
nanos_of (suc zero) = 1_000
nanos_of (suc (suc zero)) = 1_000_000
nanos_of (suc (suc (suc _))) = 1_000_000_000

-- the name of a unit after a space at which no line is broken, or nothing if the unit is unknown
abbrev pub unit_text : Option ℕ → List ℕ
unit_text None = []
unit_text (Some unit) = 194 ∷ 160 ∷ unit_name unit

-- the name of a unit in a box of HTML, or nothing if the unit is unknown
abbrev pub box_text : Option ℕ → List ℕ
box_text None = []
box_text (Some unit) = codes "<i>" ++ unit_name unit ++ codes "</i>"

-- if a second is a power of ten, 1 is times / 10 ^ decimals of the unit of an index, from nanoseconds
abbrev pub IsScale : (power index times decimals : ℕ) → Type 0
IsScale power index times decimals = (times * 10 ^ power ≡ 10 ^ (9 + decimals - 3 * index)) × (index ≤ 3) × (times ≤ 100)

-- the unit that is 1,000 times as long, some times over
abbrev pub longer_by : ℕ → Option ℕ → Option ℕ
longer_by power None = None
longer_by power (Some unit) = Some (unit + power)

-- a fraction of a unit as one of a longer unit, at most a second, in which it is one or more, after rounding
pub record IsInUnit (unit : Option ℕ) (num den : ℕ) (longer : Option ℕ) (longer_num longer_den : ℕ) : Type 0 where
  pub power : ℕ
  pub is_longer : longer ≡ longer_by power unit
  pub same : longer_num ≡ num
  pub parts : longer_den ≡ den * 1000 ^ power
  pub known : unit ≡ None → power ≡ 0
  pub no_longer : 0 < power → IfSome unit (λ u. u + power ≤ 3)
  pub at_least : 0 < power → longer_den * 9995 ≤ longer_num * 10000

-- a text is a fraction of a unit: its nearest decimal, in that unit or a longer one, at most a second
pub record IsValueText (unit : Option ℕ) (num den : ℕ) (text : List ℕ) : Type 0 where
  pub power : ℕ
  pub number : List ℕ
  pub nearest : IsDecimalOf num (den * 1000 ^ power) number
  pub known : unit ≡ None → power ≡ 0
  pub no_longer : 0 < power → IfSome unit (λ u. u + power ≤ 3)
  pub is : text ≡ number ++ unit_text (longer_by power unit)

-- a text is an integer exactly, times a power of ten
pub record IsExact (value : ℕ) (text : List ℕ) : Type 0 where
  pub number : ℕ
  pub power : ℕ
  pub same : number * 10 ^ power ≡ value
  pub is : text ≡ grouped number ++ exponent power

-- a text is a value exactly, with its unit: that of the log or a longer one, at most a second
pub record IsLabel (unit : Option ℕ) (value : ℕ) (text : List ℕ) : Type 0 where
  pub power : ℕ
  pub number : ℕ
  pub digits : List ℕ
  pub same : number * 1000 ^ power ≡ value
  pub exact : IsExact number digits
  pub known : unit ≡ None → power ≡ 0
  pub no_longer : 0 < power → IfSome unit (λ u. u + power ≤ 3)
  pub is : text ≡ digits ++ unit_text (longer_by power unit)
