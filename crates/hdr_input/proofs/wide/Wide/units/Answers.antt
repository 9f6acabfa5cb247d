use Rattle.std.proofs.Common.{◌*◌, ◌^◌, ◌≡◌, unsigned_abs, to_z, of_z, ap, ◌∙◌, arith, rules}
use Rattle.std.specs.Int.{w128}
use Rattle.std.proofs.lemmas.Int.{to_z-of_z}
use Rattle.hdr_input.proofs.RoundedWide.{divided_is, multiplied_is, multiplied_least, narrow_some, narrow_none}
use Rattle.hdr_input.proofs.wide.Wide.units.Goals as goal

pub returns-then-power-lt0-clause-value : goal.returns-then-power-lt0-clause-value
returns-then-power-lt0-clause-value c =
    let power = c.power_in-power.result in
    let same : to_z w128 (of_z w128 power) ≡ power = to_z-of_z w128 power (search rules) in
    narrow_some c.narrow.result c.divided.result c.args.self c.args.decimals c.narrow.ensures (λ x h.
    rw (c.divided.ensures, c.unsigned_abs.ensures.value, same) (divided_is c.args.self x c.args.decimals power h c.power_in-power.ensures (rw same at c.if-power-lt0.true)))

pub returns-then-power-lt0-clause-overflow : goal.returns-then-power-lt0-clause-overflow
returns-then-power-lt0-clause-overflow c =
    let power = c.power_in-power.result in
    let same : to_z w128 (of_z w128 power) ≡ power = to_z-of_z w128 power (search rules) in
    narrow_none c.narrow.result c.divided.result c.args.self c.args.decimals c.narrow.ensures (λ x h.
    rw (c.divided.ensures, c.unsigned_abs.ensures.value, same) (divided_is c.args.self x c.args.decimals power h c.power_in-power.ensures (rw same at c.if-power-lt0.true)))

pub returns-in_err-multiplied-clause-overflow : goal.returns-in_err-multiplied-clause-overflow
returns-in_err-multiplied-clause-overflow c =
    let power = c.power_in-power.result in
    let same : to_z w128 (of_z w128 power) ≡ power = to_z-of_z w128 power (search rules) in
    rw c.from_residual.ensures (λ x h. (
    let great = c.in_err-multiplied.ensures.overflow h.large in
    let most = multiplied_least c.args.self x c.args.decimals power h c.power_in-power.ensures (rw same at c.if-power-lt0.false) in
    let exponent : 10 ^ c.unsigned_abs-2.result ≡ 10 ^ unsigned_abs power = ap (λ n. 10 ^ n) (c.unsigned_abs-2.ensures.value ∙ ap unsigned_abs same) in
    let product : c.args.self.digits * 10 ^ c.unsigned_abs-2.result ≡ c.args.self.digits * 10 ^ unsigned_abs power = ap (λ n. c.args.self.digits * n) exponent in
    omega (arith, great, most, product)
    ))

pub returns-clause-value : goal.returns-clause-value
returns-clause-value c =
    let power = c.power_in-power.result in
    let same : to_z w128 (of_z w128 power) ≡ power = to_z-of_z w128 power (search rules) in
    narrow_some c.narrow-2.result c.in_ok-multiplied.field-0 c.args.self c.args.decimals c.narrow-2.ensures (λ x h.
    rw (c.in_ok-multiplied.ensures.value, c.unsigned_abs-2.ensures.value, same) (multiplied_is c.args.self x c.args.decimals power h c.power_in-power.ensures (rw same at c.if-power-lt0.false) c.in_ok-multiplied.ensures.exact))

pub returns-clause-overflow : goal.returns-clause-overflow
returns-clause-overflow c =
    let power = c.power_in-power.result in
    let same : to_z w128 (of_z w128 power) ≡ power = to_z-of_z w128 power (search rules) in
    narrow_none c.narrow-2.result c.in_ok-multiplied.field-0 c.args.self c.args.decimals c.narrow-2.ensures (λ x h.
    rw (c.in_ok-multiplied.ensures.value, c.unsigned_abs-2.ensures.value, same) (multiplied_is c.args.self x c.args.decimals power h c.power_in-power.ensures (rw same at c.if-power-lt0.false) c.in_ok-multiplied.ensures.exact))
