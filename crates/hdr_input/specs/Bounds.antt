-- Bounds of numbers, and how many numbers are within them.
use Rattle.std.specs.Prelude.{◌≡◌, ◌⊎◌, ℕ, ◌+◌, ◌*◌, ◌/◌, ◌%◌, ◌-◌, ◌^◌, ◌<◌, ◌≤◌, ◌==◌, Bool, true, false, if◌then◌else◌, nat_lt, nat_le, min, List, [], ◌∷◌, ◌++◌, length, map, count_by, Option, MatchOption}
use Rattle.hdr_input.specs.declared.number.Number.{Number}
use Rattle.hdr_input.specs.declared.bound.Bound.{Bound}
use Rattle.hdr_input.specs.declared.bound_counts.BoundCount.{BoundCount}
use Rattle.hdr_input.specs.declared.bound_tally.BoundTally.{BoundTally}

-- a number is within a bound: below it, or at it if that is included
abbrev pub is_within : Bound → Number → Bool
is_within b x =
    if b.is_included then nat_le (x.digits * 10 ^ b.number.decimals) (b.number.digits * 10 ^ x.decimals)
    else nat_lt (x.digits * 10 ^ b.number.decimals) (b.number.digits * 10 ^ x.decimals)

-- how many of some numbers are within a bound
abbrev pub count_within : Bound → List Number → ℕ
count_within b S = count_by (is_within b) S

-- a value in units of 10 ^ -decimals
abbrev pub of_decimals : ℕ → ℕ → Number
of_decimals decimals v = record { digits = v; decimals = decimals }

-- the greatest value of 64 bits that is within a bound, or none if no value is
abbrev pub IsMost : Bound → ℕ → Option ℕ → Type 0
IsMost b decimals most =
    MatchOption most ((v : ℕ) → is_within b (of_decimals decimals v) ≡ false)
    (λ m. (v : ℕ) → v < 2 ^ 64 → is_within b (of_decimals decimals v) ≡ nat_le v m)

-- twice a number in units of 10 ^ -18, rounded down, and one more if it is above that
unfoldable pub position_of : Number → ℕ
position_of x = 2 * (x.digits * 10 ^ 18 / 10 ^ x.decimals) + min 1 (x.digits * 10 ^ 18 % 10 ^ x.decimals)

-- the least position that is not within a bound
abbrev pub end_of : Bound → ℕ
end_of b = position_of b.number + (if b.is_included then 1 else 0)

-- a number is before a position
abbrev pub is_before : ℕ → Number → Bool
is_before end x = nat_lt (position_of x) end

abbrev pub ends_of : List BoundCount → List ℕ
ends_of counts = map (λ c. c.end) counts

abbrev pub Has : ℕ → List ℕ → Type 0
Has x [] = ⊥
Has x (y ∷ ys) = (y ≡ x) ⊎ Has x ys

abbrev pub AreAscending : List ℕ → Type 0
AreAscending [] = Unit {0}
AreAscending (x ∷ xs) = ((y : ℕ) → Has y xs → x ≤ y) × AreAscending xs

-- the numbers that were counted at bounds that end here or before
abbrev pub counted_to : ℕ → List BoundCount → ℕ
counted_to end [] = 0
counted_to end (c ∷ counts) = (if nat_le c.end end then c.count else 0) + counted_to end counts

-- the missing samples that were counted at the first bound that ends here
abbrev pub missing_to : ℕ → List BoundCount → ℕ
missing_to end [] = 0
missing_to end (c ∷ counts) = if c.end == end then c.missing else missing_to end counts

-- these numbers were counted: all of them, as far as 64 bits hold their number, and if it fits those before the end of each bound
pub record IsCounted (counts : List BoundCount) (total : ℕ) (S : List Number) : Type 0 where
  pub ascending : AreAscending (ends_of counts)
  pub all : total ≡ min (length S) (2 ^ 64 - 1)
  pub before : length S < 2 ^ 64 → (end : ℕ) → Has end (ends_of counts)
      → counted_to end counts + missing_to end counts ≡ count_by (is_before end) S

-- bounds have the greatest number of units of these decimals that is within them, as far as 64 bits hold it
abbrev pub AreInUnits : ℕ → List BoundCount → Type 0
AreInUnits decimals [] = Unit {0}
AreInUnits decimals (c ∷ counts) =
    (0 < c.end) × (c.most ≡ min ((c.end - 1) / (2 * 10 ^ (18 - decimals))) (2 ^ 64 - 1)) × AreInUnits decimals counts

-- a tally has counted these numbers, and its bounds are in its units once they are set
pub record HasCounted (t : BoundTally) (S : List Number) : Type 0 where
  pub counted : IsCounted t.counts.items t.total S
  pub some : (end : ℕ) → Has end (ends_of t.counts.items) → 0 < end
  pub units : t.is_in_units ≡ true
      → (decimals : ℕ) × (t.tally.decimals ≡ decimals) × (decimals ≤ 18) × AreInUnits decimals t.counts.items

-- numbers of units, of 10 ^ -decimals each
abbrev pub of_units : ℕ → List ℕ → List Number
of_units decimals values = map (λ v. record { digits = v; decimals = decimals }) values

-- some numbers are counted, after those before them; the bounds stay
pub record Counts (old : BoundTally) (numbers : List Number) (new : BoundTally) : Type 0 where
  pub ends : ends_of new.counts.items ≡ ends_of old.counts.items
  pub all : (S : List Number) → HasCounted old S → HasCounted new (S ++ numbers)

-- the sum of the numbers of a tally in units, with the missing samples, as far as 128 bits hold it
abbrev pub sum_of : BoundTally → ℕ
sum_of t = min (t.tally.sum + t.missing_sum) (2 ^ 128 - 1)

-- how far the sum may be off, if a number was rounded: half a unit for each of these and for each missing sample
abbrev pub sum_error : BoundTally → ℕ
sum_error t = if nat_lt 0 t.tally.rounded then (t.tally.rounded + t.missing + 1) / 2 else 0

-- a bound is one of those of a tally, or nothing is within it
abbrev pub HasBound : BoundTally → Bound → Type 0
HasBound t b = 0 < end_of b → Has (end_of b) (ends_of t.counts.items)
