-- Fractions as integers.
use Rattle.std.specs.Prelude.{ℕ, ◌+◌, ◌-◌, ◌*◌, ◌/◌, ◌^◌, ◌≤◌}
use Rattle.hdr_summary.specs.declared.decimals.Conversion.{Conversion}

-- a fraction as a number of equal parts of 1, to the nearest, halves up
abbrev pub nearest : ℕ → ℕ → ℕ → ℕ
nearest num den parts = (num * parts + den / 2) / den

-- a number does not fit 128 bits
abbrev pub IsPast128 : ℕ → Type 0
IsPast128 n = 2 ^ 128 ≤ n

-- how many hundredths of a converted unit one unit of these decimals is
abbrev pub hundredths : Conversion → ℕ → ℕ
hundredths conversion decimals = 10 ^ (conversion.times - decimals) * 100
