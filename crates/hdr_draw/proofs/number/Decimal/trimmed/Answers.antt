use Rattle.std.proofs.Common.{◌≡◌, ◌∙◌, ◌<◌, ◌+◌, ◌-◌, ◌*◌, ◌^◌, ◌/◌, arith, sym, ap}
use Rattle.hdr_draw.proofs.Divided.{divided}
use Rattle.hdr_draw.proofs.number.Decimal.trimmed.Goals as goal

pub loop-preserved : goal.loop-preserved
loop-preserved c =
    let i = c.loop.invariant in
    let d = c.loop.decimal.decimals in
    let p = c.args.self.decimals - d in
    let n : 0 < d = omega (arith, c.if-decimal-eq0.false) in
    let s : p + 1 ≡ c.args.self.decimals - (d - 1) = omega (arith, i.0, n) in
    let e = divided c.loop.decimal.parts 10 p (omega arith) c.if-decimal-ne0.false in
    (omega (arith, i.0, n), ap (λ k. c.loop.decimal.parts / 10 * 10 ^ k) (sym s) ∙ e ∙ i.1)
