-- The cells of a heat map: a column is a list of the numbers of its rows.
use Rattle.std.specs.Prelude.{◌≡◌, ℕ, ◌+◌, ◌-◌, ◌^◌, ◌<◌, ◌≤◌, min, List, [], get_or, set}

-- the number of samples of a cell, 0 outside the map
unfoldable pub cell : List (List ℕ) → ℕ → ℕ → ℕ
cell columns column row = get_or (get_or columns column []) row 0

-- the greatest number of a cell, at least 1
pub record IsMost (columns : List (List ℕ)) (most : ℕ) : Type 0 where
  pub at_least : 1 ≤ most
  pub greatest : (column row : ℕ) → cell columns column row ≤ most
  pub reached : 1 < most → (column : ℕ) × ((row : ℕ) × (cell columns column row ≡ most))

-- a map with samples added to a cell, which saturates; `set` past the end of a list changes nothing
unfoldable pub added : List (List ℕ) → ℕ → ℕ → ℕ → List (List ℕ)
added columns column row samples =
    set columns column (set (get_or columns column []) row (min (cell columns column row + samples) (2 ^ 64 - 1)))
