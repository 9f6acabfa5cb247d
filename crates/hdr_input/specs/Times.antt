-- The units of times.
use Rattle.std.specs.Prelude.{ℕ, ◌^◌, nat_lt, if◌then◌else◌}
use Rattle.hdr_input.specs.declared.times.TimeUnit.{TimeUnit}
use Rattle.hdr_input.specs.declared.times.TimeUnit.TheVariants.{Seconds, Milliseconds, Microseconds, Nanoseconds}

-- the unit of a time by its size: dates of 1970 to 5138 in seconds are below 10^11, and so on
abbrev pub unit_of_size : ℕ → TimeUnit
unit_of_size time =
    if nat_lt time (10 ^ 11) then Seconds
    else if nat_lt time (10 ^ 14) then Milliseconds
    else if nat_lt time (10 ^ 17) then Microseconds
    else Nanoseconds

-- the decimals of a second in a unit
abbrev pub decimals_of : TimeUnit → ℕ
decimals_of Seconds = 0
decimals_of Milliseconds = 3
decimals_of Microseconds = 6
decimals_of Nanoseconds = 9
