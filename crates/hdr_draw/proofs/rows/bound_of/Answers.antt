use Rattle.std.proofs.Common.{arith}
use Rattle.hdr_draw.specs.Rows.{Ends}
use Rattle.hdr_draw.proofs.Bounds.{power_positive, power_within, bounded_by}
use Rattle.hdr_draw.proofs.rows.bound_of.Goals as goal

pub loop-bound-init : goal.loop-bound-init
loop-bound-init c =
    let e : Ends = record { low = c.args.low; high = c.args.high } in
    let v = c.in_ok-power.ensures.value in
    (omega (arith, c.requires.above_0, c.requires.ordered), rw v (power_positive e c.args.index c.requires.above_0 c.requires.ordered), rw v (power_within e c.args.index c.requires.ordered c.requires.inside))

pub returns : goal.returns
returns c =
    let e : Ends = record { low = c.args.low; high = c.args.high } in
    let i = c.loop-bound.invariant in
    bounded_by e c.args.index c.loop-bound.below c.loop-bound.bound _ c.in_ok-power.ensures.value i.1 i.2 (omega (arith, c.loop-bound-test.false))
