use Rattle.std.proofs.Common.{◌≡◌, ◌^◌, ◌<◌, subst, ap, ◌∙◌, arith}
use Rattle.hdr_input.specs.Numbers.{in_units}
use Rattle.hdr_input.specs.Recorded.{Takes, after_rounding, rounded_to}
use Rattle.hdr_input.proofs.WideCounts.{rounded_as}
use Rattle.hdr_runs.specs.Batched.{RecordsNumber, RecordsWide}
use Rattle.hdr_runs.proofs.batch_tally.BatchTallyNumberSink.record_wide.Goals as goal

pub returns-clause-number : goal.returns-clause-number
unfolding RecordsNumber RecordsWide
returns-clause-number c = λ x h.
    let old = c.args.self.now.tally in
    let value = c.in_ok-narrow.ensures.value x h in
    let few : in_units x.digits x.decimals old.decimals < 2 ^ 64 = omega (arith, value, c.in_ok-narrow.ensures.bound) in
    let same : c.in_ok-narrow.narrow ≡ rounded_to old.decimals x = rounded_as c.in_ok-narrow.narrow x old.decimals c.in_ok-narrow.ensures.decimals value in (
      c.record.new.self.tally,
      subst (λ k. Takes old c.record.new.self.tally k) same c.in_ok-record.ensures.number,
      c.count_rounded.ensures ∙ ap (after_rounding c.record.new.self.tally) (c.is_rounded.ensures x h few),
    )
