-- The sample of a rank, and the class that a rank falls in. (`value_at_quantile`: the nearest rank; the Rust crate rounds
-- in floating point and sums chunks.)
use Rattle.std.specs.Prelude.{◌≡◌, ℕ, ◌+◌, ◌-◌, ◌*◌, ◌^◌, ◌<◌, ◌≤◌, ◌⊎◌, Bool, false, if◌then◌else◌, nat_le, nat_lt, min, max, List, [], ◌∷◌, map, length, take, sum, slice_index, slice_index_or, find, Option, Some, None, ◌==◌}
use Rattle.std.specs.Int.{div_ceil}
use Rattle.std.specs.List.{range_with_len}
use Rattle.hdr_base.specs.Fractions.{Ratio}
use Rattle.hdr_base.specs.Classes.{Resolution, top_of, value_of}
use Rattle.hdr_model.specs.Plain.{Plain, resolution}

-- a number inserted before the first that is not below it
abbrev pub put_in_order : ℕ → List ℕ → List ℕ
put_in_order x [] = x ∷ []
put_in_order x (y ∷ ys) = if nat_le x y then x ∷ y ∷ ys else y ∷ put_in_order x ys

-- the numbers of a list in ascending order
abbrev pub sorted : List ℕ → List ℕ
sorted [] = []
sorted (x ∷ xs) = put_in_order x (sorted xs)

-- the rank of a quantile among n samples in ascending order: ceil(min(q, 1) * n), and at least 1; ranks count from 1
unfoldable pub rank : Ratio → ℕ → ℕ
rank q n = max 1 (div_ceil (min q.num q.den * n) q.den)

-- the sample of that rank
unfoldable pub ranked_sample : Ratio → List ℕ → ℕ
ranked_sample q S = slice_index (sorted S) (rank q (length S) - 1)

-- a value is the top of the sample's class: at least the sample, and above it by less than one unit, or by less than one
-- part in 10^sigfig of the sample
pub record IsTopNear (h : Plain) (s value : ℕ) : Type 0 where
  pub is_top : value ≡ top_of (resolution h) s
  pub at_least : s ≤ value
  pub close : (value - s < 2 ^ (resolution h).unit) ⊎ ((value - s) * 10 ^ h.sigfig < s)

-- the first class where the sum of the numbers up to it reaches the rank
unfoldable pub position_of_rank : List ℕ → ℕ → Option ℕ
position_of_rank counts r = find (λ i. nat_le r (sum (take (i + 1) counts))) (range_with_len 0 (length counts))

-- the value of a class for a quantile of this numerator: its top, or its lowest value for the numerator 0; 0 without a class
abbrev pub value_at_bin : Resolution → ℕ → Option ℕ → ℕ
value_at_bin g num None = 0
value_at_bin g num (Some i) = if num == 0 then value_of g i else top_of g (value_of g i)

-- the value at a quantile (`value_at_quantile`)
unfoldable pub value_at_quantile : Plain → Ratio → ℕ
value_at_quantile h q = value_at_bin (resolution h) q.num (position_of_rank h.counts (rank q h.total))

-- a fraction of n, as a fraction of 1
abbrev pub per : ℕ → Ratio → Ratio
per n p = record { num = p.num; den = p.den * n }

-- a hundredth of a percentile is its quantile (`value_at_percentile`)
abbrev pub hundredth : Ratio → Ratio
hundredth p = per 100 p

-- p is below q, above 1 too
abbrev pub is_below : Ratio → Ratio → Bool
is_below p q = nat_lt (p.num * q.den) (q.num * p.den)

-- the longest prefix in which none is below the one before, where p comes before the first
abbrev pub rising_from : Ratio → List Ratio → List Ratio
rising_from p [] = []
rising_from p (q ∷ qs) = if is_below q p then [] else q ∷ rising_from q qs

-- no quantile is below it
abbrev pub nothing_of_it : Ratio
nothing_of_it = record { num = 0; den = 1 }

-- the quantiles whose values are returned after p: the longest ascending prefix, or all of them in an empty histogram
abbrev pub returned_from : Plain → Ratio → List Ratio → List Ratio
returned_from h p qs = if h.total == 0 then qs else rising_from p qs

-- the values at quantiles, up to the first that is below the one before (`value_at_quantiles`; the Rust crate takes any
-- iterator, and may continue after such a quantile)
abbrev pub quantiles_from : Plain → Ratio → List Ratio → List ℕ
quantiles_from h p qs = map (value_at_quantile h) (returned_from h p qs)

abbrev pub value_at_quantiles : Plain → List Ratio → List ℕ
value_at_quantiles h qs = quantiles_from h nothing_of_it qs

-- none is below the one before
abbrev pub IsAscending : List Ratio → Type 0
IsAscending qs = (k : ℕ) → k + 1 < length qs → is_below (slice_index_or qs (k + 1) nothing_of_it) (slice_index_or qs k nothing_of_it) ≡ false

-- each value at a quantile above 0 is the top of the class of its ranked sample
abbrev pub AreTopsNear : Plain → List ℕ → List Ratio → List ℕ → Type 0
AreTopsNear h S [] [] = Unit {0}
AreTopsNear h S (q ∷ qs) (a ∷ values) = (0 < q.den → 0 < q.num → IsTopNear h (ranked_sample q S) a) × AreTopsNear h S qs values
AreTopsNear h S qs values = ⊥
