-- Levels that values keep.
use Rattle.std.specs.Prelude.{ℕ, ◌<◌, ◌≤◌}
use Rattle.hdr_figures.specs.declared.level.Verdict.{Verdict}
use Rattle.hdr_figures.specs.declared.level.Verdict.TheVariants.{Within, MayBeOver, Over}

-- whether a sample, of which the lowest and the highest value of its class are known, keeps a level: every value of the class
-- does, some do, or none does
abbrev pub IsVerdict : Verdict → (level lowest highest : ℕ) → Type 0
IsVerdict Within level lowest highest = highest ≤ level
IsVerdict MayBeOver level lowest highest = (lowest ≤ level) × (level < highest)
IsVerdict Over level lowest highest = (level < lowest) × (level < highest)
