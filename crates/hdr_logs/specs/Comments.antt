-- What a comment says of the values after it.
use Rattle.std.specs.Prelude.{ℕ, Option, None, Some}
use Rattle.hdr_input.specs.declared.unit.Unit.{Unit}
use Rattle.hdr_logs.specs.declared.headers.Header.{Header}
use Rattle.hdr_logs.specs.declared.headers.Header.TheVariants as header

-- their decimals, if it has these
abbrev pub decimals_in : Option Header → Option ℕ
decimals_in None = None
decimals_in (Some (header.Decimals decimals)) = Some decimals
decimals_in (Some (header.Unit unit)) = None

-- their unit, if it has one
abbrev pub unit_in : Option Header → Option Unit
unit_in None = None
unit_in (Some (header.Decimals decimals)) = None
unit_in (Some (header.Unit unit)) = Some unit
