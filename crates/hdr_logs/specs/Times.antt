-- Times of intervals that are stored.
use Rattle.std.specs.Prelude.{ℕ, ◌+◌, ◌/◌, ◌^◌, ◌≤◌}

-- the millisecond that is nearest to a time in nanoseconds
abbrev pub nearest_millisecond : ℕ → ℕ
nearest_millisecond nanos = (nanos + 500_000) / 1_000_000

-- the nearest millisecond does not fit 64 bits
abbrev pub IsTooLate : ℕ → Type 0
IsTooLate nanos = 2 ^ 64 ≤ nearest_millisecond nanos
