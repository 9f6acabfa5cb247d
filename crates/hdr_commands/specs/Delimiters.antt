-- Delimiters of tables.
use Rattle.std.specs.Prelude.{ℕ, ◌<◌, ◌≢◌}

-- a byte may be between columns: it is ASCII, and no quote and no end of a line
abbrev pub IsDelimiter : ℕ → Type 0
IsDelimiter byte = (byte < 128) × (byte ≢ 34) × (byte ≢ 10) × (byte ≢ 13)
