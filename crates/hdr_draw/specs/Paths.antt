-- Paths of SVG: their points as texts.
use Rattle.std.specs.Prelude.{ℕ, ◌/◌, ◌%◌, ◌==◌, ◌≤◌, min, List, ◌++◌, codes, if◌then◌else◌}
use Rattle.std.specs.Fmt.{decimal}
use Rattle.hdr_draw.specs.declared.path.Step.{Step}
use Rattle.hdr_draw.specs.declared.path.Step.TheVariants.{Start, Line, Across, Along, Back}

-- a number of tenths as a decimal
unfoldable pub tenths : ℕ → List ℕ
tenths n = if n % 10 == 0 then decimal (n / 10) else decimal (n / 10) ++ codes "." ++ decimal (n % 10)

-- a step as SVG writes it
unfoldable pub step_text : Step → List ℕ
step_text (Start x y) = codes "M" ++ tenths x ++ codes " " ++ tenths y
step_text (Line x y) = codes "L" ++ tenths x ++ codes " " ++ tenths y
step_text (Across x) = codes "H" ++ tenths x
step_text (Along y) = codes "V" ++ tenths y
step_text Back = codes "Z"

-- whether a step leads to a point in a field of a height, which is 1,000 pixels wide
abbrev pub IsInside : ℕ → Step → Type 0
IsInside height (Start x y) = (x ≤ 10000) × (y ≤ height)
IsInside height (Line x y) = (x ≤ 10000) × (y ≤ height)
IsInside height (Across x) = x ≤ 10000
IsInside height (Along y) = y ≤ height
IsInside height Back = 0 ≤ height

-- a step to the nearest point in a field of a height
unfoldable pub step_inside : ℕ → Step → Step
step_inside height (Start x y) = Start (min 10000 x) (min height y)
step_inside height (Line x y) = Line (min 10000 x) (min height y)
step_inside height (Across x) = Across (min 10000 x)
step_inside height (Along y) = Along (min height y)
step_inside height Back = Back

-- the steps of a path in a field of a height
pub record Steps : Type 0 where
  pub height : ℕ
  pub steps : List Step
