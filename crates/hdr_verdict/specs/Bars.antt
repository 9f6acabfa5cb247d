-- How many samples open a run of cells.
use Rattle.std.specs.Prelude.{ℕ, ◌+◌, ◌-◌, ◌*◌, ◌/◌}
use Rattle.std.specs.Int.{leading_zeros, w128}

-- how many bits a number has
abbrev pub bit_length : ℕ → ℕ
bit_length n = 128 - leading_zeros w128 n

-- the number of samples that open a run: 6, and half the bits of 4 times the number of cells
unfoldable pub bar_of_cells : ℕ → ℕ
bar_of_cells cells = 6 + bit_length (4 * cells) / 2
