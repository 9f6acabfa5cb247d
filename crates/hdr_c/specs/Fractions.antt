-- Fractions and bounds, as C sees them.
use Rattle.std.specs.Prelude.{◌≡◌, ◌⊎◌, ◌-◌, ◌/◌, ◌%◌, ◌^◌, ◌<◌, ◌≤◌, ℕ, min, List, Option, Some, None, length, slice_index}
use Rattle.hdr_base.specs.Fractions.{Ratio}
use Rattle.hdr_model.specs.Plain.{Plain}
use Rattle.hdr_model.specs.Deviation.{IsDeviation}
use Rattle.hdr_model.specs.Quantiles.{value_at_quantile}
use Rattle.hdr_c.specs.declared.queries.WideFraction.{WideFraction}
use Rattle.hdr_c.specs.declared.queries.Shape.{Shape}

-- a fraction whose numerator is in two halves
abbrev pub IsFraction : Ratio → WideFraction → Type 0
IsFraction q s = (s.num_low ≡ q.num % 2 ^ 64) × (s.num_high ≡ q.num / 2 ^ 64) × (s.den ≡ min q.den (2 ^ 64 - 1))

-- a mean is stored, or there is none: the status is then 13, and nothing is stored
abbrev pub IsMean : ℕ → Option Ratio → WideFraction → WideFraction → Type 0
IsMean status None old new = (status ≡ 13) × (new ≡ old)
IsMean status (Some q) old new = (status ≡ 0) × IsFraction q new

-- a standard deviation is stored, or the total is full: the status is then 13, and nothing is stored
abbrev pub IsStoredDeviation : ℕ → Plain → WideFraction → WideFraction → Type 0
IsStoredDeviation status h old new =
    (h.total ≡ 2 ^ 64 - 1 → (status ≡ 13) × (new ≡ old)) × (h.total < 2 ^ 64 - 1 → (status ≡ 0) × (deviation : Ratio) × IsDeviation h deviation × IsFraction deviation new)

-- the value at a quantile is stored, or the denominator is 0: the status is then 12, and nothing is stored
abbrev pub IsQuantile : ℕ → ℕ → ℕ → ℕ → ℕ → Type 0
IsQuantile status den old new at_quantile = (den ≡ 0 → (status ≡ 12) × (new ≡ old)) × (0 < den → (status ≡ 0) × (new ≡ at_quantile))

-- the values at the quantiles num/den of the first n numerators are stored, and what follows them is unchanged
pub record AreValues (h : Plain) (nums : List ℕ) (den n : ℕ) (old new : List ℕ) : Type 0 where
  pub same_length : length new ≡ length old
  pub values : (i : ℕ) → i < n → slice_index new i ≡ value_at_quantile h (record { num = slice_index nums i; den = den })
  pub rest : (i : ℕ) → n ≤ i → slice_index new i ≡ slice_index old i

-- the values at quantiles are stored, or the buffer is shorter, or the denominator is 0
abbrev pub AreQuantiles : ℕ → Plain → List ℕ → ℕ → List ℕ → List ℕ → Type 0
AreQuantiles status h nums den old new =
    ((status ≡ 12) × (den ≡ 0) × (new ≡ old))
    ⊎ ((status ≡ 11) × (0 < den) × (length old < length nums) × (new ≡ old))
    ⊎ ((status ≡ 0) × (0 < den) × (length nums ≤ length old) × AreValues h nums den (length nums) old new)

abbrev pub IsShape : Plain → Shape → Type 0
IsShape h s =
    (s.low ≡ h.low) × (s.high ≡ h.high) × (s.bins ≡ length h.counts) × (s.sigfig ≡ h.sigfig) × (s.auto_resize ≡ h.auto_resize)
