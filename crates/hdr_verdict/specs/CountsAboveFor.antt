-- How many samples of cells are above values.
use Rattle.std.specs.Prelude.{◌≡◌, ℕ, ◌^◌, ◌<◌, ◌++◌, ◌∷◌, [], List, length, map, take}
use Rattle.hdrhistogram.specs.declared.serialization.class_decoder.RecordedClass.{RecordedClass}
use Rattle.hdr_verdict.specs.ClassSamples.{AreClassesOf}
use Rattle.hdr_verdict.specs.Tails.{count_above}
use Rattle.hdr_verdict.specs.declared.above.CountsAbove.{CountsAbove}
use Rattle.hdr_verdict.specs.declared.width.Width.{Width}

-- the counts of the first n of cells
abbrev pub AreCountsOf : List (List ℕ) → ℕ → (value : ℕ) → CountsAbove → Type 0
AreCountsOf cells n value above = (above.value ≡ value) × (above.counts.items ≡ map (count_above value) (take n cells))

-- a cell is added to counts
abbrev pub PushesCell : Width → List RecordedClass → CountsAbove → CountsAbove → Type 0
PushesCell width cell old new =
    (new.value ≡ old.value) × ((S : List ℕ) → AreClassesOf width cell S → length S < 2 ^ 64 → new.counts.items ≡ old.counts.items ++ count_above old.value S ∷ [])
