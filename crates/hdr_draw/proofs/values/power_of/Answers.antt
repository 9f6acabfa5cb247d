use Rattle.std.proofs.Common.{◌≡◌, max, arith, sym, ◌∙◌}
use Rattle.hdr_draw.proofs.Decades.{no_power}
use Rattle.hdr_draw.proofs.values.power_of.Goals as goal

pub returns-then-value-pow-clause-none : goal.returns-then-value-pow-clause-none
returns-then-value-pow-clause-none c =
    let m : c.max.result ≡ max 1 c.args.value = omega (arith, c.max.ensures) in
    no_power c.args.value c.ilog10-power.result (rw (← m) c.ilog10-power.ensures.power_le) (rw (← m) c.ilog10-power.ensures.next_power_gt) (λ e. c.if-value-pow.true (e ∙ sym c.pow.ensures))
