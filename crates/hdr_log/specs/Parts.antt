-- Splitting bytes, and parsing numbers. Bytes are a list of numbers.
use Rattle.std.specs.Prelude.{ℕ, ◌+◌, ◌^◌, Bool, not, ◌&&◌, ◌==◌, nat_lt, if◌then◌else◌, List, length, take, drop, Option, Some, None, position}
use Rattle.std.specs.Option.{option_map}
use Rattle.std.specs.List.{list_all, slice_split}
use Rattle.std.specs.Char.{is_ascii_digit}
use Rattle.std.specs.Str.Parse.{digits_value}

-- the result of f, if there is an argument
infixl 10 ◌>>=◌
abbrev pub ◌>>=◌ : {A B : Type 0} → Option A → (A → Option B) → Option B
None >>= f = None
(Some x) >>= f = f x

-- the parts of a text between the bytes b
abbrev pub parts : ℕ → List ℕ → List (List ℕ)
parts b text = slice_split (λ x. x == b) text

-- what comes before the first byte b, and what follows it
unfoldable pub split_at_byte : ℕ → List ℕ → Option (List ℕ × List ℕ)
split_at_byte b text = option_map (λ i. (take i text, drop (i + 1) text)) (position (λ x. x == b) text)

-- one digit or more
abbrev pub is_digits : List ℕ → Bool
is_digits text = not (length text == 0) && list_all is_ascii_digit text

-- the number of decimal digits, below 2 ^ 64
unfoldable pub number_of : List ℕ → Option ℕ
number_of text = if is_digits text && nat_lt (digits_value 10 text) (2 ^ 64) then Some (digits_value 10 text) else None
