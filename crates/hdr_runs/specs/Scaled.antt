-- Percentiles in smaller units, of which `factor` make one.
use Rattle.std.specs.Prelude.{ℕ, ◌*◌, ◌^◌, ◌≤◌, ◌⊎◌, Option, MatchOption}
use Rattle.std.specs.Option.{option_map}
use Rattle.hdr_compare.specs.declared.changes.Measured.{Measured}

-- a value and its ends in these units
abbrev pub times : ℕ → Measured → Measured
times factor m = record {
  value = m.value * factor;
  low = option_map (λ end. end * factor) m.low;
  high = option_map (λ end. end * factor) m.high;
}

-- there is an end, and it overflows 64 bits in these units
abbrev pub IsTooLarge : ℕ → Option ℕ → Type 0
IsTooLarge factor end = MatchOption end ⊥ (λ value. 2 ^ 64 ≤ value * factor)

-- the value or an end does
abbrev pub Overflows : ℕ → Measured → Type 0
Overflows factor m = (2 ^ 64 ≤ m.value * factor) ⊎ IsTooLarge factor m.low ⊎ IsTooLarge factor m.high
