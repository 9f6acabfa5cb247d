-- Conversions of values.
use Rattle.std.specs.Prelude.{◌≡◌, ◌+◌, min}
use Rattle.hdr_input.specs.Units.{exponent}
use Rattle.hdr_input.specs.declared.unit.Unit.{Unit}
use Rattle.hdr_summary.specs.declared.decimals.Conversion.{Conversion}

-- values of one unit are converted to another: by these powers of ten, of which one is 0, a second becomes a second
abbrev pub Converts : Conversion → Unit → Unit → Type 0
Converts conversion from to =
    (conversion.times + exponent from ≡ conversion.divided + exponent to) × (min conversion.times conversion.divided ≡ 0)
