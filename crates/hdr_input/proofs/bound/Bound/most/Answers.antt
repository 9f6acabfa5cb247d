use Rattle.std.proofs.Common.{◌≡◌, ◌-◌, ◌*◌, ◌/◌, ◌^◌, min, refl, ◌∙◌, arith}
use Rattle.hdr_input.proofs.Most.{most-included, most-excluded}
use Rattle.hdr_input.proofs.bound.Bound.most.Goals.{then-self, else-self+in_ok-within}
use Rattle.hdr_input.proofs.bound.Bound.most.Goals as goal

pub returns : goal.returns
returns c = λ few few_of_number v small. (
    let d = c.args.decimals in
    let n = c.args.self.number.decimals in
    let p = c.pow-2.result in
    let own : c.min-2.result ≡ n = omega arith in
    let power : p ≡ 10 ^ n = rw (← own) c.pow-2.ensures in
    let same : c.min.result ≡ d = omega arith in
    let level : c.from.result * c.pow.result ≡ c.args.self.number.digits * 10 ^ d = rw (← same, ← c.pow.ensures, ← c.from.ensures) refl in
    let is : c.min-3.result ≡ min (c.if-self.within / p) (2 ^ 64 - 1) = rw (← c.from-2.ensures) c.min-3.ensures in
    elim c.if-self.branch [
      | then-self w ↦ most-included c.args.self d c.if-self.within p c.min-3.result v power is small w.if-self.true (w.within-is ∙ level)
      | else-self+in_ok-within w ↦ most-excluded c.args.self d c.if-self.within p c.min-3.result v power is small w.if-self.false (rw (← level) w.in_ok-within.ensures.0) (rw (← level) (w.within-is ∙ w.in_ok-within.ensures.1))
    ]
    )
