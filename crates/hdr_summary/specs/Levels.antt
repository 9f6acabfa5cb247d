-- Levels of figures.
use Rattle.std.specs.Prelude.{ℕ, ◌*◌, ◌^◌, ◌<◌, ◌≤◌, Bool, true, false}
use Rattle.hdr_input.specs.declared.number.Number.{Number}
use Rattle.hdr_input.specs.declared.bound.Bound.{Bound}
use Rattle.hdr_summary.specs.declared.levels.Side.{Side}
use Rattle.hdr_summary.specs.declared.levels.Side.TheVariants.{Below, AtMost, Above, AtLeast}

-- units / 10 ^ decimals is on this side of digits / 10 ^ other
abbrev pub IsOnSide : Side → ℕ → ℕ → ℕ → ℕ → Type 0
IsOnSide Below units decimals digits other = units * 10 ^ other < digits * 10 ^ decimals
IsOnSide AtMost units decimals digits other = units * 10 ^ other ≤ digits * 10 ^ decimals
IsOnSide Above units decimals digits other = digits * 10 ^ decimals < units * 10 ^ other
IsOnSide AtLeast units decimals digits other = digits * 10 ^ decimals ≤ units * 10 ^ other

-- a level bounds figures from above
abbrev pub is_upper : Side → Bool
is_upper Below = true
is_upper AtMost = true
is_upper Above = false
is_upper AtLeast = false

-- a number at a level is with those below it
abbrev pub is_included : Side → Bool
is_included Below = false
is_included AtMost = true
is_included Above = true
is_included AtLeast = false

-- the numbers on one side of a level are within this bound, and those on the other are not
abbrev pub bound_of : Side → Number → Bound
bound_of side number = record { number = number; is_included = is_included side }
