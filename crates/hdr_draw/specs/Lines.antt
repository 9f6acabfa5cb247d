-- The lines and texts of a scale of values.
use Rattle.std.specs.Prelude.{◌≡◌, ℕ, ◌-◌, ◌*◌, ◌%◌, ◌^◌, ◌≤◌, ◌⊎◌, ◌↔◌, List, map, min, max, IsTrue}
use Rattle.std.specs.Int.{div_ceil}
use Rattle.std.specs.List.{All, Contains}
use Rattle.hdr_draw.specs.declared.values.AxisTick.{AxisTick}
use Rattle.hdr_draw.specs.Rows.{Ends}
use Rattle.hdr_draw.specs.Scales.{IsValuePlace}
use Rattle.hdr_draw.specs.Steps.{IsStep, IsStrictlyAscending}

-- a power of ten
abbrev pub IsPower : ℕ → Type 0
IsPower n = (k : ℕ) × (n ≡ 10 ^ k)

-- a step has a line if it is a power of ten, or if a decade is wide enough for a text
abbrev pub HasLine : ℕ → ℕ → Type 0
HasLine decade step = IsPower step ⊎ (150 ≤ decade)

-- the line of a step, for the widths of a decade and an octave in tenths of a pixel; a text needs 150. Each n-th power of ten has a
-- text, for the least n whose n decades are wide enough, and other steps have one if an octave is
pub record IsLine (decade octave : ℕ) (t : AxisTick) : Type 0 where
  pub is : HasLine decade t.value
  pub power : IsTrue t.is_power ↔ IsPower t.value
  pub text_of_power : (k : ℕ) → t.value ≡ 10 ^ k → IsTrue t.has_text ↔ k % div_ceil 150 (max 1 decade) ≡ 0
  pub text_of_other : (IsPower t.value → ⊥) → IsTrue t.has_text ↔ 150 ≤ octave

-- the lines of a scale of values in a field of a height: those of its steps that have one, ascending
pub record AreLines (e : Ends) (height : ℕ) (ticks : List AxisTick) : Type 0 where
  pub decade : ℕ
  pub octave : ℕ
  pub is_decade : IsValuePlace e height (min (10 * e.low) (2 ^ 64 - 1)) decade
  pub is_octave : IsValuePlace e height (min (2 * e.low) (2 ^ 64 - 1)) octave
  pub lines : All (IsLine decade octave) ticks
  pub steps : All (λ t. IsStep t.value) ticks
  pub inside : All (λ t. (e.low ≤ t.value) × (t.value ≤ e.high)) ticks
  pub ascending : IsStrictlyAscending (map (λ t. t.value) ticks)
  pub all : (step : ℕ) → IsStep step → HasLine decade step → e.low ≤ step → step ≤ e.high → Contains (map (λ t. t.value) ticks) step
