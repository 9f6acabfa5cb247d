use Rattle.std.proofs.Common.{◌≡◌, ◌+◌, ◌*◌, ◌/◌, ◌%◌, ◌^◌, ◌||◌, nat_lt, min, unsigned_abs, to_z, of_z, sym, ap, ◌∙◌, arith, rules, inl, inr}
use Rattle.std.specs.Prelude.{if◌then◌else◌}
use Rattle.std.specs.Int.{w128}
use Rattle.std.proofs.lemmas.Bool.{cases_lt}
use Rattle.std.proofs.lemmas.Int.{to_z-of_z}
use Rattle.hdr_input.specs.Bounds.{position_of}
use Rattle.hdr_input.proofs.WidePositions.{divided_position, multiplied_position, zero_position, below_some}
use Rattle.hdr_input.proofs.wide.Wide.position.Goals as goal

pub returns-then-power-lt0 : goal.returns-then-power-lt0
returns-then-power-lt0 c = λ x h. (
    let power = c.power_in-power.result in
    let w = c.args.self in
    let same : to_z w128 (of_z w128 power) ≡ power = to_z-of_z w128 power (search rules) in
    let below = rw same at c.if-power-lt0.true in
    let exponent : c.unsigned_abs.result ≡ unsigned_abs power = c.unsigned_abs.ensures.value ∙ ap unsigned_abs same in
    let value = c.position_divided.ensures (rw exponent (below_some power below)) in
    let exact : c.position_divided.result ≡ position_of x =
    value ∙ ap (λ n. 2 * (w.digits / 10 ^ n) + (if w.is_cut || nat_lt 0 (w.digits % 10 ^ n) then 1 else 0)) exponent
    ∙ divided_position w x power h c.power_in-power.ensures below in
    ap (λ n. min n (2 ^ 125)) exact
    )

pub returns-else-power-lt0 : goal.returns-else-power-lt0
returns-else-power-lt0 c = λ x h. (
    let power = c.power_in-power.result in
    let w = c.args.self in
    let same : to_z w128 (of_z w128 power) ≡ power = to_z-of_z w128 power (search rules) in
    let above = rw same at c.if-power-lt0.false in
    let exponent : c.unsigned_abs-else-power-lt0.result ≡ unsigned_abs power = c.unsigned_abs-else-power-lt0.ensures.value ∙ ap unsigned_abs same in
    elim (cases_lt 0 w.digits) [
      | inl some ↦ c.position_multiplied.ensures.value some
          ∙ ap (λ n. min (2 * (w.digits * 10 ^ n) + (if w.is_cut then 1 else 0)) (2 ^ 125)) exponent
          ∙ multiplied_position w x power h c.power_in-power.ensures above
      | inr none ↦ (let zero_digits : w.digits ≡ 0 = omega (arith, none) in
          ap (λ n. min n (2 ^ 125)) (c.position_multiplied.ensures.zero zero_digits ∙ sym (zero_position w x power h c.power_in-power.ensures above zero_digits)))
    ]
    )
