use Rattle.std.proofs.Common.{◌≤◌, arith}
use Rattle.hdr_input.proofs.Powers.{multiplied, too_great}
use Rattle.hdr_input.proofs.units.in_unit.Goals as goal

pub returns-else-to-from-clause-same : goal.returns-else-to-from-clause-same
returns-else-to-from-clause-same c =
    let below : c.decimals-from.result ≤ c.decimals-to.result = omega arith in
    multiplied c.args.number c.args.from c.args.to c.decimals-from.result c.decimals-to.result c.times_ten.result c.decimals-from.ensures.value c.decimals-to.ensures.value below c.times_ten.ensures.digits c.times_ten.ensures.decimals

pub returns-else-to-from-clause-overflow : goal.returns-else-to-from-clause-overflow
returns-else-to-from-clause-overflow c =
    too_great c.args.number c.args.from c.args.to c.decimals-from.result c.decimals-to.result c.times_ten.result c.decimals-from.ensures.value c.decimals-to.ensures.value c.times_ten.ensures.overflow
