use Rattle.std.proofs.Common.{◌≡◌, ◌+◌, ◌-◌, ◌*◌, ◌^◌, sym, ap, ◌∙◌, arith}
use Rattle.hdr_base.specs.Fractions.{Ratio}
use Rattle.hdr_iterators.specs.Ticks.{Ticked}
use Rattle.hdr_iterators.specs.Places.{tick_of}
use Rattle.hdr_iterators.proofs.TicksHalves.{tick_at, whole_wide}
use Rattle.hdr_iterators.proofs.quantile.Tick.left_after.Goals as goal

pub returns-clause-value : goal.returns-clause-value
returns-clause-value c =
    let t = c.self.inside.per_half in
    let q = c.self.inside.half in
    let s = c.self.inside.step in
    let at = tick_at t q s c.self.invariant.0 in
    let num : (tick_of c.args.self.now.per_half c.args.self.now.number).num ≡ t * 2 ^ (q + 1) - 2 * t + s = ap (λ (p : Ticked). (tick_of p.per_half p.number).num) (sym c.self.view_is) ∙ ap (λ (p : Ratio). p.num) at in
    let den : (tick_of c.args.self.now.per_half c.args.self.now.number).den ≡ t * 2 ^ (q + 1) = ap (λ (p : Ticked). (tick_of p.per_half p.number).den) (sym c.self.view_is) ∙ ap (λ (p : Ratio). p.den) at in
    rw (num, den) (omega (arith, whole_wide t q, c.self.invariant.0, c.from.ensures, c.from-2.ensures))
