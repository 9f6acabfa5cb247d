use Rattle.std.proofs.Common.{◌≡◌, ◌+◌, ◌*◌, ◌%◌, ◌^◌, ◌<◌, sym, ap, ◌∙◌, arith}
use Rattle.hdr_base.specs.Fractions.{Ratio}
use Rattle.hdr_iterators.specs.Ticks.{Ticked}
use Rattle.hdr_iterators.specs.Places.{tick_of}
use Rattle.hdr_iterators.proofs.TicksHalves.{tick_at, whole_wide, whole_mod}
use Rattle.hdr_iterators.proofs.quantile.Tick.whole.Goals as goal

pub returns-clause-value : goal.returns-clause-value
returns-clause-value c =
    let t = c.self.inside.per_half in
    let q = c.self.inside.half in
    let s = c.self.inside.step in
    let den : (tick_of c.args.self.now.per_half c.args.self.now.number).den ≡ t * 2 ^ (q + 1) = ap (λ (p : Ticked). (tick_of p.per_half p.number).den) (sym c.self.view_is) ∙ ap (λ (p : Ratio). p.den) (tick_at t q s c.self.invariant.0) in
    let fits : t < 2 ^ 32 = omega (arith, c.self.ranges) in
    let value : c.from.result * 2 ^ (q + 1) % 2 ^ 128 ≡ t * 2 ^ (q + 1) = ap (λ n. n * 2 ^ (q + 1) % 2 ^ 128) c.from.ensures ∙ whole_mod t q fits c.self.invariant.1 in
    value ∙ sym den

pub returns-clause-nonzero : goal.returns-clause-nonzero
returns-clause-nonzero c =
    let t = c.self.inside.per_half in
    let q = c.self.inside.half in
    let fits : t < 2 ^ 32 = omega (arith, c.self.ranges) in
    let value : c.from.result * 2 ^ (q + 1) % 2 ^ 128 ≡ t * 2 ^ (q + 1) = ap (λ n. n * 2 ^ (q + 1) % 2 ^ 128) c.from.ensures ∙ whole_mod t q fits c.self.invariant.1 in
    omega (arith, value, whole_wide t q, c.self.invariant.0)
