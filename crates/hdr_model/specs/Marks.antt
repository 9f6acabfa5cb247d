-- The two marks of a histogram. (`max` and `min_nz`: the Rust crate keeps values, and here marks are classes or none.)
use Rattle.std.specs.Prelude.{ℕ, ◌+◌, ◌-◌, ◌^◌, ◌==◌, Option, Some, None, if◌then◌else◌, ◌<◌, ◌≡◌, List, slice_index, max, min}
use Rattle.hdr_base.specs.Classes.{Resolution, value_of, top_of}

pub record MarkPair : Type 0 where
  pub top : Option ℕ
  pub lower : Option ℕ

-- a top mark, by the number of classes up to it: 0 for none
unfoldable pub top_by : ℕ → Option ℕ
top_by classes = if classes == 0 then None else Some (classes - 1)

-- a lower mark, kept as the number of the class before it; `u64::MAX` for none
unfoldable pub lower_by : ℕ → Option ℕ
lower_by before = if before == 2 ^ 64 - 1 then None else Some (before + 1)

-- a class lies above a top mark
abbrev pub IsAbove : Option ℕ → ℕ → Type 0
IsAbove None i = Unit {0}
IsAbove (Some m) i = m < i

-- a class other than the first lies below a lower mark
abbrev pub IsBelow : Option ℕ → ℕ → Type 0
IsBelow None i = 0 < i
IsBelow (Some m) i = (0 < i) × (i < m)

-- the index of the last number above 0
abbrev pub IsTopMark : List ℕ → Option ℕ → Type 0
IsTopMark counts None = (i : ℕ) → slice_index counts i ≡ 0
IsTopMark counts (Some m) = (0 < slice_index counts m) × ((i : ℕ) → m < i → slice_index counts i ≡ 0)

-- the index of the first number above 0, the number at index 0 left out
abbrev pub IsLowerMark : List ℕ → Option ℕ → Type 0
IsLowerMark counts None = (i : ℕ) → 0 < i → slice_index counts i ≡ 0
IsLowerMark counts (Some m) = (0 < m) × (0 < slice_index counts m) × ((i : ℕ) → 0 < i → i < m → slice_index counts i ≡ 0)

-- the greatest value of a mark's class, 0 for no mark
abbrev pub top_of_mark : Resolution → Option ℕ → ℕ
top_of_mark g None = 0
top_of_mark g (Some i) = top_of g (value_of g i)

-- the lowest value of a mark's class, `u64::MAX` for no mark
abbrev pub value_of_mark : Resolution → Option ℕ → ℕ
value_of_mark g None = 2 ^ 64 - 1
value_of_mark g (Some i) = value_of g i

-- the later of a mark and a class
abbrev pub later_mark : Option ℕ → ℕ → Option ℕ
later_mark None i = Some i
later_mark (Some m) i = Some (max m i)

-- the earlier of a mark and a class; the first class is never marked
abbrev pub earlier_mark : Option ℕ → ℕ → Option ℕ
earlier_mark None i = if i == 0 then None else Some i
earlier_mark (Some m) i = if i == 0 then Some m else Some (min m i)

-- the later, and the earlier, of two marks
abbrev pub later_of : Option ℕ → Option ℕ → Option ℕ
later_of mark None = mark
later_of mark (Some i) = later_mark mark i

abbrev pub earlier_of : Option ℕ → Option ℕ → Option ℕ
earlier_of mark None = mark
earlier_of mark (Some i) = earlier_mark mark i
