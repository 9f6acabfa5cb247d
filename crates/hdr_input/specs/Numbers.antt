-- Decimal numbers in units, and the digits of their texts.
use Rattle.std.specs.Prelude.{◌≡◌, ℕ, ◌+◌, ◌*◌, ◌/◌, ◌^◌, ◌<◌, ◌⊎◌, true, List, ◌∷◌, ◌++◌, length}
use Rattle.std.specs.Char.{is_ascii_digit}
use Rattle.std.specs.List.{list_all}
use Rattle.std.specs.Str.Parse.{digits_value_after}

-- digits / 10 ^ have, in units of 10 ^ -want, to the nearest, halves up
abbrev pub in_units : ℕ → ℕ → ℕ → ℕ
in_units digits have want = (digits * 10 ^ want + 10 ^ have / 2) / 10 ^ have

-- a text begins with digits, whose value after those of another number is this, and the rest follows
abbrev pub BeginsWithDigits : ℕ → List ℕ → ℕ → List ℕ → Type 0
BeginsWithDigits start text value rest =
    (digits : List ℕ) × (text ≡ digits ++ rest) × (list_all is_ascii_digit digits ≡ true) × (value ≡ digits_value_after 10 start digits)

-- a line ends here, by LF or CR LF, and the rest follows
abbrev pub EndsLine : List ℕ → List ℕ → Type 0
EndsLine text rest = (text ≡ 10 ∷ rest) ⊎ (text ≡ 13 ∷ 10 ∷ rest)

-- a text begins with digits, with at most a point after the first or a later one, which are a number of these decimals, and the rest follows
abbrev pub BeginsWithNumber : List ℕ → ℕ → ℕ → List ℕ → Type 0
BeginsWithNumber text value decimals rest =
    (BeginsWithDigits 0 text value rest × (length rest < length text) × (decimals ≡ 0))
    ⊎ ((whole : ℕ) × (after : List ℕ) × BeginsWithDigits 0 text whole (46 ∷ after) × BeginsWithDigits whole after value rest × (decimals + length rest ≡ length after))
