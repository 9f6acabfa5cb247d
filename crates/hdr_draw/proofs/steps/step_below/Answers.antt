use Rattle.std.proofs.Common.{◌<◌, ◌/◌, arith}
use Rattle.hdr_draw.proofs.StepOrder.{below_times, below_second, below_third, below_next}
use Rattle.hdr_draw.proofs.steps.step_below.Goals as goal

pub returns-in-0-to-1-clause-greatest : goal.returns-in-0-to-1-clause-greatest
returns-in-0-to-1-clause-greatest c = λ n s h.
    let e = c.pow-tens.ensures in
    let q : c.max-value.result / c.pow-tens.result < 2 = omega arith in
    let b = below_times c.max-value.result c.pow-tens.result 2 c.ilog10.result e q in
    rw e (below_second c.max-value.result n c.ilog10.result b s (omega arith))

pub returns-in-2-to-4-clause-greatest : goal.returns-in-2-to-4-clause-greatest
returns-in-2-to-4-clause-greatest c = λ n s h.
    let e = c.pow-tens.ensures in
    let q : c.max-value.result / c.pow-tens.result < 5 = omega arith in
    let b = below_times c.max-value.result c.pow-tens.result 5 c.ilog10.result e q in
    rw e (below_third c.max-value.result n c.ilog10.result b s (omega arith))

pub returns-in_default-clause-greatest : goal.returns-in_default-clause-greatest
returns-in_default-clause-greatest c = λ n s h.
    rw c.pow-tens.ensures (below_next c.max-value.result n c.ilog10.result c.ilog10.ensures.next_power_gt s (omega arith))
