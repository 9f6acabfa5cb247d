-- The width of classes.
use Rattle.std.specs.Prelude.{◌≡◌, ℕ, ◌-◌, ◌^◌, max, min}
use Rattle.hdr_base.specs.Classes.{HasScale, lowest_of, resolution_of, top_of}
use Rattle.hdr_model.specs.Plain.{Plain}
use Rattle.hdr_figures.specs.declared.classes.Classes.{Classes}
use Rattle.hdr_figures.specs.declared.level.LevelValue.{LevelValue}
use Rattle.hdr_figures.specs.declared.sum.Width.{Width}

-- a value is the highest one of the class of another: of classes of some width
abbrev pub IsHighest : Width → ℕ → ℕ → Type 0
IsHighest width value highest =
    (HasScale width.low width.sigfig → highest ≡ top_of (resolution_of width.low width.sigfig) value)
    × (¬ HasScale width.low width.sigfig → highest ≡ 2 ^ 64 - 1)

-- a value is the lowest one of the class of another: of classes of some width
abbrev pub IsLowest : Width → ℕ → ℕ → Type 0
IsLowest width value lowest =
    (HasScale width.low width.sigfig → lowest ≡ lowest_of (resolution_of width.low width.sigfig) value)
    × (¬ HasScale width.low width.sigfig → lowest ≡ 0)

-- the lowest and the highest value of the class of a value: of classes of some width
abbrev pub IsWithClass : Width → LevelValue → Type 0
IsWithClass width at = IsLowest width at.value at.lowest × IsHighest width at.value at.highest

-- the width of the classes of a histogram
abbrev pub IsWidthOf : Plain → Width → Type 0
IsWidthOf h width = (width.low ≡ h.low) × (width.sigfig ≡ h.sigfig)

-- the width of classes that were decoded
abbrev pub width_in : Classes → Width
width_in c = record { low = c.bounds.low; sigfig = c.bounds.sigfig }

-- the width of classes that have those of two widths in them
abbrev pub IsJoin : Width → Width → Width → Type 0
IsJoin one other both = (both.low ≡ max one.low other.low) × (both.sigfig ≡ min one.sigfig other.sigfig)
