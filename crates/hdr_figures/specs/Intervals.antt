-- Intervals, and their sums.
use Rattle.std.specs.Prelude.{◌≡◌, ℕ, ◌-◌, ◌^◌, ◌<◌, ◌⊎◌, List, [], ◌∷◌, max, min}
use Rattle.std.specs.List.{fold}
use Rattle.hdr_model.specs.Plain.{Plain}
use Rattle.hdr_model.specs.Merging.{after_add}
use Rattle.hdrhistogram.specs.FieldRead.{IsHeldIn}
use Rattle.hdr_logs.specs.Stored.{view_of_stored, end_of}
use Rattle.hdr_logs.specs.declared.place.Place.{Place}
use Rattle.hdr_logs.specs.declared.stored.StoredInterval.{StoredInterval}
use Rattle.hdr_figures.specs.declared.figures.Worst.{Worst}

-- when the first of intervals begins
abbrev pub first_start : List StoredInterval → ℕ
first_start all = fold (λ first i. min first i.start) (2 ^ 64 - 1) all

-- when the last of intervals ends
abbrev pub last_end : List StoredInterval → ℕ
last_end all = fold (λ last i. max last (end_of i)) 0 all

-- how long it is from the first start to the last end
abbrev pub span_of : List StoredInterval → ℕ
span_of all = last_end all - first_start all

-- histograms are those of intervals
abbrev pub AreHistogramsOf : List StoredInterval → List Plain → Type 0
AreHistogramsOf [] all = all ≡ []
AreHistogramsOf (i ∷ intervals) all =
    (h : Plain) × (others : List Plain) × (all ≡ h ∷ others) × IsHeldIn (2 ^ 64 - 1) (view_of_stored i).field h × AreHistogramsOf intervals others

-- histograms are added to another, one after the other
abbrev pub sum_of : Plain → List Plain → Plain
sum_of old all = fold (λ sum h. after_add (2 ^ 64 - 1) sum h) old all

-- a line was read before another
abbrev pub IsBefore : Place → Place → Type 0
IsBefore place other = (place.file < other.file) ⊎ ((place.file ≡ other.file) × (place.line < other.line))

-- an interval has a greater value than another, or the same and was read before
abbrev pub IsWorse : Worst → Worst → Type 0
IsWorse w other =
    (other.value < w.value) ⊎ ((w.value ≡ other.value) × IsBefore w.interval.now.place other.interval.now.place)
