-- Durations as programs print them: numbers with units, one after another.
use Rattle.std.specs.Prelude.{◌≡◌, ℕ, ◌+◌, ◌-◌, ◌*◌, ◌^◌, ◌⊎◌, max, List, [], ◌∷◌}
use Rattle.hdr_input.specs.declared.number.Number.{Number}
use Rattle.hdr_input.specs.declared.unit.Unit.{Unit}
use Rattle.hdr_input.specs.declared.unit.Unit.TheVariants.{Nanoseconds, Microseconds, Milliseconds, Seconds}
use Rattle.hdr_input.specs.declared.durations.PartUnit.{PartUnit}
use Rattle.hdr_input.specs.declared.durations.PartUnit.TheVariants.{Hours, Minutes, Of}
use Rattle.hdr_input.specs.Numbers.{BeginsWithNumber}
use Rattle.hdr_input.specs.Units.{exponent, IsSameTime}

-- a text begins with the name of a unit, ns, us, µs (U+00B5 or U+03BC), ms, s, m or h, and the rest follows
abbrev pub BeginsWithName : List ℕ → PartUnit → List ℕ → Type 0
BeginsWithName text Hours rest = text ≡ 104 ∷ rest
BeginsWithName text Minutes rest = text ≡ 109 ∷ rest
BeginsWithName text (Of Seconds) rest = text ≡ 115 ∷ rest
BeginsWithName text (Of Milliseconds) rest = text ≡ 109 ∷ 115 ∷ rest
BeginsWithName text (Of Microseconds) rest =
    (text ≡ 117 ∷ 115 ∷ rest) ⊎ (text ≡ 194 ∷ 181 ∷ 115 ∷ rest) ⊎ (text ≡ 206 ∷ 188 ∷ 115 ∷ rest)
BeginsWithName text (Of Nanoseconds) rest = text ≡ 110 ∷ 115 ∷ rest

-- a text begins with the name of a unit, or with a space and the name, and the rest follows
abbrev pub BeginsWithUnit : List ℕ → PartUnit → List ℕ → Type 0
BeginsWithUnit text unit rest = BeginsWithName text unit rest ⊎ ((name : List ℕ) × (text ≡ 32 ∷ name) × BeginsWithName name unit rest)

-- a number of a unit in seconds
abbrev pub in_seconds : Number → PartUnit → Number
in_seconds x Hours = record { digits = x.digits * 3600; decimals = x.decimals }
in_seconds x Minutes = record { digits = x.digits * 60; decimals = x.decimals }
in_seconds x (Of unit) = record { digits = x.digits; decimals = x.decimals + exponent unit }

-- the sum of two numbers, with the decimals of the one that has more
abbrev pub sum_of : Number → Number → Number
sum_of x y = record {
  digits = x.digits * 10 ^ (max x.decimals y.decimals - x.decimals) + y.digits * 10 ^ (max x.decimals y.decimals - y.decimals);
  decimals = max x.decimals y.decimals;
}

-- the sum of a number and those after it
abbrev pub sum_after : Number → List Number → Number
sum_after x [] = x
sum_after x (y ∷ ys) = sum_after (sum_of x y) ys

-- a text begins with a number and its unit, which are this number of seconds, and the rest follows
abbrev pub BeginsWithPart : List ℕ → Number → List ℕ → Type 0
BeginsWithPart text seconds rest =
    (x : Number) × (unit : PartUnit) × (after : List ℕ)
    × BeginsWithNumber text x.digits x.decimals after × BeginsWithUnit after unit rest × (seconds ≡ in_seconds x unit)

-- a text is parts, one after another, which are these numbers of seconds
abbrev pub AreParts : List ℕ → List Number → Type 0
AreParts text [] = text ≡ []
AreParts text (x ∷ xs) = (rest : List ℕ) × BeginsWithPart text x rest × AreParts rest xs

-- a text is a duration, whose parts add up to this number of a unit
abbrev pub IsDuration : List ℕ → Number → Unit → Type 0
IsDuration text x unit =
    (first : Number) × (more : List Number) × AreParts text (first ∷ more) × IsSameTime (sum_after first more) Seconds x unit
