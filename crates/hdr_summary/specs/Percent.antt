-- Which quantile a percentile names.
use Rattle.std.specs.Prelude.{◌≡◌, ℕ, List, [], ◌∷◌, ◌++◌, ◌+◌, ◌*◌, ◌^◌, ◌<◌, ◌≤◌, ◌⊎◌, length, true}
use Rattle.std.specs.Str.Parse.{digits_value}
use Rattle.hdr_base.specs.Fractions.{Ratio}
use Rattle.hdr_log.specs.Parts.{is_digits}
use Rattle.hdr_summary.specs.declared.percentile.Percentile.{Percentile}

-- `99.9` is 999 / 1000: the digits on both sides of the point, over 100 with a zero for each digit after it
abbrev pub percent : List ℕ → List ℕ → Ratio
percent whole part = record {
  num = digits_value 10 whole * 10 ^ length part + digits_value 10 part;
  den = 10 ^ length part * 100;
}

-- above 100 percent, or with a denominator that overflows 64 bits
abbrev pub IsBeyond : Ratio → Type 0
IsBeyond quantile = (quantile.den < quantile.num) ⊎ (2 ^ 64 ≤ quantile.den)

-- a percentile as it may be written: its digits, with `p` (112) before them, `%` (37) after them, or both
abbrev pub IsMarked : (text digits : List ℕ) → Type 0
IsMarked text digits = (text ≡ digits) ⊎ (text ≡ 112 ∷ digits) ⊎ (text ≡ digits ++ 37 ∷ []) ⊎ (text ≡ 112 ∷ (digits ++ 37 ∷ []))

-- the digits on both sides of a point (46); without one, 0 (48) follows it
abbrev pub IsSplit : (digits whole part : List ℕ) → Type 0
IsSplit digits whole part = (digits ≡ whole ++ 46 ∷ part) ⊎ ((digits ≡ whole) × (part ≡ 48 ∷ []))

-- the decimals of the quantile of a percentile
abbrev pub decimals_of : Percentile → ℕ
decimals_of p = p.decimals

-- a text is a percentile
pub record IsPercentile (text : List ℕ) (p : Percentile) : Type 0 where
  pub whole : List ℕ
  pub part : List ℕ
  pub marked : IsMarked text p.digits.now
  pub split : IsSplit p.digits.now whole part
  pub are_digits : (is_digits whole ≡ true) × (is_digits part ≡ true)
  pub quantile : p.quantile ≡ percent whole part
  pub decimals : decimals_of p ≡ length part + 2
