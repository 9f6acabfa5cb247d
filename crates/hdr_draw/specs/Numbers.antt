-- Numbers as texts: fractions as decimals, and commas between groups of digits.
use Rattle.std.specs.Prelude.{◌≡◌, ℕ, zero, suc, ◌+◌, ◌*◌, ◌/◌, ◌%◌, ◌^◌, ◌==◌, ◌≤◌, ◌&&◌, not, List, [], ◌∷◌, ◌++◌, codes, length, if◌then◌else◌}
use Rattle.std.specs.Fmt.{decimal}

-- n is a fraction as a number of equal parts of 1, to the nearest: at most half a part above or below
pub record IsNearest (num den parts n : ℕ) : Type 0 where
  pub not_below : 2 * (num * parts) ≤ 2 * (n * den) + den
  pub not_above : 2 * (n * den) ≤ 2 * (num * parts) + den

-- digits with a comma after each that three digits follow, or six, or any other multiple of three
abbrev pub with_commas : List ℕ → List ℕ
with_commas [] = []
with_commas (d ∷ ds) = if length ds % 3 == 0 && not (length ds == 0) then d ∷ 44 ∷ with_commas ds else d ∷ with_commas ds

-- an integer with commas between its groups of three digits
unfoldable pub grouped : ℕ → List ℕ
grouped n = with_commas (decimal n)

-- the last k digits of an integer
abbrev pub last_digits : ℕ → ℕ → List ℕ
last_digits zero n = []
last_digits (suc k) n = decimal (n / 10 ^ k % 10) ++ last_digits k n

-- a number of equal parts of 1 as a decimal: 1 has 10 ^ decimals of them
unfoldable pub decimal_text : ℕ → ℕ → List ℕ
decimal_text parts decimals =
    if decimals == 0 then grouped parts else grouped (parts / 10 ^ decimals) ++ codes "." ++ last_digits decimals parts

-- an exponent of ten, unless it is 0
unfoldable pub exponent : ℕ → List ℕ
exponent power = if power == 0 then [] else codes "e" ++ decimal power

-- a text is a fraction's nearest decimal, times a power of ten, without some zeros at its end
pub record IsDecimalOf (num den : ℕ) (text : List ℕ) : Type 0 where
  pub parts : ℕ
  pub decimals : ℕ
  pub zeros : ℕ
  pub power : ℕ
  pub nearest : IsNearest num (den * 10 ^ power) (10 ^ (decimals + zeros)) (parts * 10 ^ zeros)
  pub is : text ≡ decimal_text parts decimals ++ exponent power
