-- The comments of a log that say of what its values are.
use Rattle.std.specs.Prelude.{ℕ, List, ◌∷◌, ◌++◌, codes}
use Rattle.std.specs.Fmt.{decimal}
use Rattle.hdr_input.specs.Units.{unit_name}
use Rattle.hdr_input.specs.declared.unit.Unit.{Unit}

-- the comment that has the decimals of a log's values
abbrev pub decimals_comment : ℕ → List ℕ
decimals_comment decimals = codes "[Values have " ++ decimal decimals ++ codes " decimals]"

-- the comment that has the unit of a log's values
abbrev pub unit_comment : Unit → List ℕ
unit_comment unit = codes "[Values are in " ++ unit_name unit ++ codes "]"

-- its line, without the whitespace at the end
abbrev pub unit_line : Unit → List ℕ
unit_line unit = 35 ∷ unit_comment unit
