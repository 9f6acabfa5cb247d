use Rattle.std.proofs.Common.{arith}
use Rattle.hdr_draw.proofs.Bounds.{power_step}
use Rattle.hdr_draw.proofs.powers.times_power.Goals as goal

pub loop-power-preserved : goal.loop-power-preserved
loop-power-preserved c =
    let i = c.loop-power.invariant in
    let e = c.in_ok-product.ensures in
    let v = rw c.deref.ensures.value at e.value in
    let l = rw c.deref.ensures.value at e.len in
    (power_step _ _ _ _ _ v i.0, omega (arith, l, i.1))
