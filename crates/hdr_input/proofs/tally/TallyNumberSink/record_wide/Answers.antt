use Rattle.std.proofs.Common.{◌≡◌, ◌^◌, ◌<◌, subst, ap, ◌∙◌, arith}
use Rattle.hdr_input.specs.Numbers.{in_units}
use Rattle.hdr_input.specs.Recorded.{Takes, after_rounding, rounded_to}
use Rattle.hdr_input.proofs.WideCounts.{rounded_as}
use Rattle.hdr_input.proofs.tally.TallyNumberSink.record_wide.Goals as goal

pub returns-clause-number : goal.returns-clause-number
returns-clause-number c = λ x h.
    let n = c.in_ok-rounded.field-0 in
    let value = c.in_ok-rounded.ensures.value x h in
    let few : in_units x.digits x.decimals c.args.self.now.decimals < 2 ^ 64 = omega (arith, value, c.in_ok-rounded.ensures.bound) in
    let same : n ≡ rounded_to c.args.self.now.decimals x = rounded_as n x c.args.self.now.decimals c.in_ok-rounded.ensures.decimals value in (
      c.record.new.self,
      subst (λ k. Takes c.args.self.now c.record.new.self k) same c.in_ok-record.ensures.number,
      c.count_rounded.ensures ∙ ap (after_rounding c.record.new.self) (c.is_rounded.ensures x h few),
    )
