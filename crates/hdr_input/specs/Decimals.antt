-- The numbers that decimal texts write, and what is left of numbers without their last digits.
use Rattle.std.specs.Prelude.{◌≡◌, ℕ, ◌+◌, ◌*◌, ◌/◌, ◌%◌, ◌^◌, ◌<◌, ◌≤◌, ◌⊎◌, ⊤, Bool, true, false, ◌||◌, ◌==◌, nat_lt, if◌then◌else◌, ℤ, pos, negsuc, ◌+ℤ◌, min, List, ◌++◌, length, Option, Some, None}
use Rattle.std.specs.List.{before_first, after_first, list_any}
use Rattle.std.specs.Str.Parse.{digits_value, digits_value_after, signed_digits_value, starts_with_minus, without_leading_sign}
use Rattle.hdr_log.specs.Parts.{is_digits}
use Rattle.hdr_input.specs.Numbers.{in_units}
use Rattle.hdr_input.specs.declared.number.Number.{Number}
use Rattle.hdr_input.specs.declared.wide.Wide.{Wide}
use Rattle.hdr_input.specs.declared.cause.Cause.{Cause}
use Rattle.hdr_input.specs.declared.cause.Cause.TheVariants.{NotANumber, Dash, Infinite, Comma, Blank, Negative, TooLarge, TooManyDecimals}

abbrev pub is_point : ℕ → Bool
is_point b = b == 46

-- the number of these digits before the point, and these after it, which are its decimals
abbrev pub of_digits : List ℕ → List ℕ → Number
of_digits whole fraction = record { digits = digits_value 10 (whole ++ fraction); decimals = length fraction }

-- the number of a text WHOLE or WHOLE.FRACTION, which has one digit or more
unfoldable pub decimal_of : List ℕ → Option Number
decimal_of text =
    if is_digits (before_first is_point text ++ after_first is_point text)
    then Some (of_digits (before_first is_point text) (after_first is_point text)) else None

-- the integer of a text of digits, perhaps after a sign
unfoldable pub integer_of : List ℕ → Option ℤ
integer_of text = if is_digits (without_leading_sign text) then Some (signed_digits_value 10 text) else None

abbrev pub is_e : ℕ → Bool
is_e b = b == 101 || b == 69

-- what follows the first e or E of a text, if it has one
abbrev pub after_e : List ℕ → Option (List ℕ)
after_e text = if list_any is_e text then Some (after_first is_e text) else None

-- the exponent in what follows an e, and 0 without one
abbrev pub exponent_in : Option (List ℕ) → Option ℤ
exponent_in None = Some (pos 0)
exponent_in (Some text) = integer_of text

-- an exponent as far as exponents are distinguished, which is up to 1,000,000,000 and down to -1,000,000,000
abbrev pub limited : ℤ → ℤ
limited (pos n) = pos (min n 1_000_000_000)
limited (negsuc n) = negsuc (min n 999_999_999)

-- a number times 10 to a power
abbrev pub times_power : Number → ℤ → Number
times_power x (pos n) = record { digits = x.digits * 10 ^ n; decimals = x.decimals }
times_power x (negsuc n) = record { digits = x.digits; decimals = x.decimals + (n + 1) }

abbrev pub with_exponent : Option Number → Option ℤ → Option Number
with_exponent None exponent = None
with_exponent (Some x) None = None
with_exponent (Some x) (Some exponent) = Some (times_power x (limited exponent))

-- the number of a text without sign: WHOLE or WHOLE.FRACTION, and perhaps e or E and an exponent
unfoldable pub number_of : List ℕ → Option Number
number_of text = with_exponent (decimal_of (before_first is_e text)) (exponent_in (after_e text))

-- a text is this number of 0 or more: `+` before it changes nothing, and `-` is only before 0
abbrev pub IsText : List ℕ → Number → Type 0
IsText text x = (number_of (without_leading_sign text) ≡ Some x) × (starts_with_minus text ≡ true → x.digits ≡ 0)

-- a text is not a number of 0 or more, for this cause
abbrev pub IsTextError : List ℕ → Cause → Type 0
IsTextError text Negative = (x : Number) × (number_of (without_leading_sign text) ≡ Some x) × (starts_with_minus text ≡ true) × (0 < x.digits)
IsTextError text NotANumber = number_of (without_leading_sign text) ≡ None
IsTextError text Dash = number_of (without_leading_sign text) ≡ None
IsTextError text Infinite = number_of (without_leading_sign text) ≡ None
IsTextError text Comma = number_of (without_leading_sign text) ≡ None
IsTextError text Blank = number_of (without_leading_sign text) ≡ None
IsTextError text _ = ⊥

-- a cause that a text is not a number at all
abbrev pub IsNoNumber : Cause → Type 0
IsNoNumber NotANumber = ⊤
IsNoNumber Dash = ⊤
IsNoNumber Infinite = ⊤
IsNoNumber Comma = ⊤
IsNoNumber Blank = ⊤
IsNoNumber _ = ⊥

-- a wide number is a number without its last digits, as many as these, and `is_cut` is whether one of them is not 0
pub record IsCutBy (cut : ℕ) (w : Wide) (x : Number) : Type 0 where
  pub exponent : w.exponent +ℤ pos x.decimals ≡ pos cut
  pub digits : w.digits ≡ x.digits / 10 ^ cut
  pub is_cut : w.is_cut ≡ nat_lt 0 (x.digits % 10 ^ cut)

-- a wide number has the digits of a number: all of them, unless it is full
pub record HasDigitsOf (w : Wide) (x : Number) : Type 0 where
  pub cut : ℕ
  pub is : IsCutBy cut w x
  pub all : w.is_full ≡ false → cut ≡ 0
  pub full : w.is_full ≡ true → 2 ^ 124 ≤ w.digits

-- a wide number stands for a number: it is that number, or has the first digits of it, which are 2 ^ 124 or more
pub record StandsFor (w : Wide) (x : Number) : Type 0 where
  pub cut : ℕ
  pub is : IsCutBy cut w x
  pub large : w.is_cut ≡ true → 2 ^ 124 ≤ w.digits

-- a number with one more digit at its end, which may be a decimal
abbrev pub with_digit : Number → ℕ → Bool → Number
with_digit x digit is_fraction = record { digits = x.digits * 10 + digit; decimals = x.decimals + (if is_fraction then 1 else 0) }

-- a number with more digits at its end, which may be decimals
abbrev pub with_digits : Number → List ℕ → Bool → Number
with_digits x digits is_fraction = record { digits = digits_value_after 10 x.digits digits; decimals = x.decimals + (if is_fraction then length digits else 0) }

-- the decimals of 10 to this power
abbrev pub decimals_of : ℤ → ℕ
decimals_of (pos n) = 0
decimals_of (negsuc n) = n + 1

-- a number as it is recorded: rounded to decimals, or exact with 18 decimals at most
abbrev pub IsNarrowed : Option ℕ → Number → Number → Type 0
IsNarrowed (Some decimals) x n = (n.decimals ≡ decimals) × (n.digits ≡ in_units x.digits x.decimals decimals)
IsNarrowed None x n = (n.decimals ≤ 18) × (n.digits * 10 ^ x.decimals ≡ x.digits * 10 ^ n.decimals)

-- a number is not recorded, for this cause: 64 bits do not hold it in units, or it is to be exact and has more than 18 decimals
abbrev pub IsNarrowError : Option ℕ → Number → Cause → Type 0
IsNarrowError (Some decimals) x TooLarge = 2 ^ 64 ≤ in_units x.digits x.decimals decimals
IsNarrowError (Some decimals) x _ = ⊥
IsNarrowError None x TooLarge = (decimals : ℕ) × (decimals ≤ 18) × (2 ^ 64 ≤ in_units x.digits x.decimals decimals)
IsNarrowError None x TooManyDecimals = (18 < x.decimals) × (0 < x.digits)
IsNarrowError None x _ = ⊥

-- a text is not a number that is recorded, for this cause
abbrev pub IsParseError : List ℕ → Option ℕ → Cause → Type 0
IsParseError text decimals cause = IsTextError text cause ⊎ ((x : Number) × IsText text x × IsNarrowError decimals x cause)
