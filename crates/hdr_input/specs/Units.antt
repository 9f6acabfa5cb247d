-- Units of time, and amounts in them.
use Rattle.std.specs.Prelude.{◌≡◌, ℕ, ◌+◌, ◌*◌, ◌^◌, ◌-◌, ◌≤◌, ◌⊎◌, max, List, codes}
use Rattle.hdr_input.specs.declared.number.Number.{Number}
use Rattle.hdr_input.specs.declared.unit.Unit.{Unit}
use Rattle.hdr_input.specs.declared.unit.Unit.TheVariants.{Nanoseconds, Microseconds, Milliseconds, Seconds}

-- the name of a unit, on the command line and in the comment of a log
abbrev pub unit_name : Unit → List ℕ
unit_name Nanoseconds = codes "ns"
unit_name Microseconds = codes "us"
unit_name Milliseconds = codes "ms"
unit_name Seconds = codes "s"

-- a second is 10 to this power in a unit
abbrev pub exponent : Unit → ℕ
exponent Nanoseconds = 9
exponent Microseconds = 6
exponent Milliseconds = 3
exponent Seconds = 0

-- a number of one unit and a number of another are the same time
abbrev pub IsSameTime : Number → Unit → Number → Unit → Type 0
IsSameTime one from other to = one.digits * 10 ^ (other.decimals + exponent to) ≡ other.digits * 10 ^ (one.decimals + exponent from)

-- a number of one unit is too great for another, or its decimals are too many
abbrev pub IsTooGreat : Number → Unit → Unit → Type 0
IsTooGreat number from to =
    (2 ^ 64 ≤ max 1 number.digits * 10 ^ (exponent to - exponent from)) ⊎ (2 ^ 32 ≤ number.decimals + exponent from)
