use Rattle.std.proofs.Common.{◌∙◌, ◌<◌, arith}
use Rattle.hdr_draw.proofs.Divided.{divided}
use Rattle.hdr_draw.proofs.labels.split_powers.Goals as goal

pub loop-power-preserved : goal.loop-power-preserved
loop-power-preserved c =
    let p : 0 < c.args.base = omega arith in
    divided c.loop-power.number c.args.base c.loop-power.power p c.if-number-base-ne0.false ∙ c.loop-power.invariant
