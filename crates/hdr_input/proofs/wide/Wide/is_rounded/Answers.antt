use Rattle.std.proofs.Common.{◌≡◌, ◌||◌, ◌%◌, ◌^◌, nat_lt, unsigned_abs, to_z, of_z, sym, ap, ◌∙◌, rules}
use Rattle.std.specs.Int.{w128}
use Rattle.std.proofs.lemmas.Int.{to_z-of_z}
use Rattle.hdr_input.proofs.RoundedWide.{rounded_above, rounded_divided, not_below, is_below}
use Rattle.hdr_input.proofs.wide.Wide.is_rounded.Goals as goal

pub returns-then-power-ge0 : goal.returns-then-power-ge0
returns-then-power-ge0 c = λ x h small. (
    let power = c.power_in-power.result in
    let same : to_z w128 (of_z w128 power) ≡ power = to_z-of_z w128 power (search rules) in
    rounded_above c.args.self x c.args.decimals power h c.power_in-power.ensures (not_below power (rw same at c.if-power-ge0.true)) small
    )

pub returns : goal.returns
returns c = λ x h small. (
    let power = c.power_in-power.result in
    let same : to_z w128 (of_z w128 power) ≡ power = to_z-of_z w128 power (search rules) in
    let both = rounded_divided c.args.self x c.args.decimals power h c.power_in-power.ensures (is_below power (rw same at c.if-power-ge0.false)) in
    let exponent : c.unsigned_abs.result ≡ unsigned_abs power = c.unsigned_abs.ensures.value ∙ ap unsigned_abs same in
    c.is_above.ensures ∙ ap (λ n. c.args.self.is_cut || nat_lt 0 (c.args.self.digits % 10 ^ n)) exponent ∙ sym both
    )
