-- What is said of a change.
use Rattle.std.specs.Prelude.{◌≡◌, ℕ, ◌+◌, ◌*◌, ◌/◌, ◌^◌, ◌<◌, ◌≤◌, ◌⊎◌}
use Rattle.hdr_compare.specs.Changes.{ExceedsBy, FallsBelowBy, IsOpen}
use Rattle.hdr_compare.specs.declared.changes.Measured.{Measured}
use Rattle.hdr_compare.specs.declared.verdicts.Verdict.{Verdict}
use Rattle.hdr_compare.specs.declared.verdicts.Verdict.TheVariants.{Slower, Faster, Same, TooFew}

-- neither above nor below by more than chance
pub record IsWithinChance (x y : Measured) : Type 0 where
  pub not_above : ExceedsBy 1 1 x y → ⊥
  pub not_below : FallsBelowBy 1 1 x y → ⊥

abbrev pub IsVerdict : Measured → Measured → Verdict → Type 0
IsVerdict x y Slower = ExceedsBy 1 1 x y
IsVerdict x y Faster = FallsBelowBy 1 1 x y
IsVerdict x y Same = IsWithinChance x y × (IsOpen x.high y.low → ⊥) × (IsOpen x.low y.high → ⊥)
IsVerdict x y TooFew = IsWithinChance x y × (IsOpen x.high y.low ⊎ IsOpen x.low y.high)

-- the nearest ratio of two values, in thousandths
pub record IsNearestRatio (before after ratio : ℕ) : Type 0 where
  pub some : 0 < before
  pub nearest : ratio ≡ (2000 * after + before) / (2 * before)

-- a ratio to 0, and one that does not fit 64 bits, are left out
abbrev pub HasNoRatio : (before after : ℕ) → Type 0
HasNoRatio before after = (before ≡ 0) ⊎ (2 ^ 64 ≤ (2000 * after + before) / (2 * before))
