use Rattle.std.proofs.Common.{◌≡◌, ◌+◌, ◌≤◌, max, arith}
use Rattle.hdr_draw.specs.Steps.{step_of}
use Rattle.hdr_draw.proofs.StepOrder.{greatest_below, last_step, past_the_last}
use Rattle.hdr_draw.proofs.values.ValueScale.new.Goals as goal

pub returns : goal.returns
returns c =
    let low = c.step_below-low.result in
    let s = c.step_below-low.ensures in
    let l : c.step_below-low.result ≤ step_of 57 = greatest_below 18446744073709551615 low 57 (omega (arith, past_the_last)) s.step (omega (arith, s.within)) in
    let m : c.max.result ≡ max c.args.greatest (low + 1) = omega (arith, c.max.ensures, c.saturating_add.ensures, l, last_step) in
    let t = rw m at c.step_above-high.ensures in
    record {
      low = record { is = s.step; within = s.within; greatest = s.greatest };
      high = record { is = t.step; last = t.last; within = t.within; least = t.least };
    }
