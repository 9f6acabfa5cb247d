-- What a unit determines of numbers: which of them it rounds, and the decimals that it has.
use Rattle.std.specs.Prelude.{◌≡◌, ℕ, ◌+◌, ◌/◌, ◌%◌, ◌-◌, ◌^◌, ◌<◌, ◌≤◌, Bool, nat_lt, min, max, List, [], ◌∷◌, ◌++◌}
use Rattle.hdr_input.specs.declared.number.Number.{Number}
use Rattle.hdr_input.specs.declared.survey.Survey.{Survey}

-- a number, rounded down to an integer
abbrev pub whole_of : Number → ℕ
whole_of x = x.digits / 10 ^ x.decimals

-- a number is not an integer of units of 10 ^ -decimals
abbrev pub is_rounded : Number → ℕ → Bool
is_rounded x decimals = nat_lt 0 (x.digits % 10 ^ (x.decimals - decimals))

-- the most decimals of numbers
abbrev pub most_decimals : List Number → ℕ
most_decimals [] = 0
most_decimals (x ∷ xs) = max x.decimals (most_decimals xs)

-- the greatest of numbers, rounded down to an integer
abbrev pub greatest_whole : List Number → ℕ
greatest_whole [] = 0
greatest_whole (x ∷ xs) = max (whole_of x) (greatest_whole xs)

-- an integer has this number of digits, and 0 has none
abbrev pub HasDigits : ℕ → ℕ → Type 0
HasDigits n digits = (n < 10 ^ digits) × (0 < digits → 10 ^ (digits - 1) ≤ n)

-- the decimals of a unit for numbers: the most that they have, as far as the greatest has 15 digits with them
abbrev pub AreDecimalsOf : List Number → ℕ → Type 0
AreDecimalsOf numbers decimals =
    (digits : ℕ) × HasDigits (greatest_whole numbers) digits × (decimals ≡ min (most_decimals numbers) (15 - digits))

-- the greatest of numbers has fewer than 15 digits with the most decimals that they have
abbrev pub HasRoom : List Number → Type 0
HasRoom numbers = (digits : ℕ) × HasDigits (greatest_whole numbers) digits × (most_decimals numbers + digits < 15)

-- a survey is of these numbers
abbrev pub HasSurveyed : Survey → List Number → Type 0
HasSurveyed survey numbers = (survey.decimals ≡ most_decimals numbers) × HasDigits (greatest_whole numbers) survey.digits

-- numbers are surveyed, after those before them
abbrev pub Surveys : Survey → Survey → Type 0
Surveys old new = (numbers : List Number) × ((before : List Number) → HasSurveyed old before → HasSurveyed new (numbers ++ before))
