use Rattle.std.proofs.Common.{◌+◌, ◌*◌, ◌^◌, ◌≤◌, arith}
use Rattle.std.proofs.Math.Nat.{mul-le-mul_left}
use Rattle.hdr_draw.proofs.Significant.{from_thousand, power_within}
use Rattle.hdr_draw.proofs.number.Decimal.of_fraction.Goals as goal

pub returns-in_default-clause-digits : goal.returns-in_default-clause-digits
returns-in_default-clause-digits c = λ h k d.
    let i = c.loop-decimals.decimals in
    let f = rw c.pow.ensures at (c.in_default.ensures.fits h) in
    let p : 10 ^ (i + 1) ≤ 10 ^ 9 = power_within (i + 1) (omega arith) in
    let m : c.args.num * 10 ^ (i + 1) ≤ c.args.num * 10 ^ 9 = mul-le-mul_left c.args.num p in
    absurd (omega (arith, f, k, m))

pub returns-then-longer-ge1000-clause-digits : goal.returns-then-longer-ge1000-clause-digits
returns-then-longer-ge1000-clause-digits c = λ h k d.
    let n = rw c.pow.ensures at c.in-Some.ensures.nearest in
    from_thousand c.args.num c.args.den c.loop-decimals.decimals c.in-Some.longer n c.if-longer-ge1000.true
