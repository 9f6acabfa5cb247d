use Rattle.std.proofs.Common.{◌^◌}
use Rattle.hdr_base.specs.Classes.{resolution_of}
use Rattle.hdr_base.proofs.ClassesLaws.{width-of-units, width-bound}
use Rattle.hdr_base.proofs.ClassesDigits.{digits-pos-of, digits-enough}
use Rattle.hdr_base.proofs.laws.widths.Goals as goal

pub returns-clause-unit : goal.returns-clause-unit
returns-clause-unit c = width-of-units

pub returns-clause-digits : goal.returns-clause-digits
unfolding resolution_of
returns-clause-digits c = λ low sigfig scale v from.
    width-bound (resolution_of low sigfig) v (10 ^ sigfig) (digits-pos-of low sigfig) (digits-enough sigfig) from
