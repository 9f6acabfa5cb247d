use Rattle.std.proofs.Common.{◌≡◌, refl, arith}
use Rattle.hdr_base.specs.Classes.{resolution_of, unit_of}
use Rattle.hdr_base.proofs.ClassesScale.{unit-is}
use Rattle.hdr_base.proofs.ClassesDigits.{digits-IsLeast}
use Rattle.hdr_base.proofs.ClassesIntervals.{unit-IsLeast, unit-small}
use Rattle.hdr_base.proofs.scale.Scale.new.Goals as goal

pub returns-then-unit-digits-gt63-clause-scale : goal.returns-then-unit-digits-gt63-clause-scale
returns-then-unit-digits-gt63-clause-scale c = λ h.
    omega (arith, unit-is c.args.low c.ilog2-unit.result c.ilog2-unit.ensures.power_le c.ilog2-unit.ensures.next_power_gt, c.in_ok-digits.ensures.value.1)

pub returns-clause-scale : goal.returns-clause-scale
unfolding resolution_of
returns-clause-scale c =
    let unit : unit_of c.args.low ≡ c.ilog2-unit.result = unit-is c.args.low c.ilog2-unit.result c.ilog2-unit.ensures.power_le c.ilog2-unit.ensures.next_power_gt in
    let digits = c.in_ok-digits.ensures.value in (
      record { not_zero = omega arith; digits = digits.0; fits = omega (arith, unit, digits.1) },
      rw (unit, ← digits.1) refl,
    )

pub returns-clause-unit : goal.returns-clause-unit
returns-clause-unit c = unit-IsLeast c.args.low c.ilog2-unit.result c.ilog2-unit.ensures.power_le c.ilog2-unit.ensures.next_power_gt

pub returns-clause-digits : goal.returns-clause-digits
returns-clause-digits c = rw c.in_ok-digits.ensures.value.1 (digits-IsLeast c.args.sigfig)

pub returns-then-unit-digits-gt63-clause-small : goal.returns-then-unit-digits-gt63-clause-small
returns-then-unit-digits-gt63-clause-small c = λ some below few.
    absurd (omega (arith, unit-small c.args.low c.ilog2-unit.result c.ilog2-unit.ensures.power_le below, c.in_ok-digits.ensures.bounds.1))
