use Rattle.std.proofs.Common.{◌≡◌, arith, below_more}
use Rattle.hdr_draw.proofs.StepOrder.{are_steps, least_above, last_step, past_the_last, steps_ascend}
use Rattle.hdr_draw.proofs.steps.step_above.Goals as goal

pub returns-in_default-clause-step : goal.returns-in_default-clause-step
returns-in_default-clause-step c = λ h.
    let m = steps_ascend c.loop-index.index 57 (omega arith) in
    absurd (omega (arith, m, last_step, c.in_default.ensures.overflow))

pub returns-in_default-clause-least : goal.returns-in_default-clause-least
returns-in_default-clause-least c = λ n s h.
    let l = least_above c.args.value n c.loop-index.index c.loop-index.invariant s h in
    omega (arith, l, c.in_default.ensures.overflow)

pub returns-then-step-value-clause-step : goal.returns-then-step-value-clause-step
returns-then-step-value-clause-step c = λ h. rw c.in-Some.ensures.value (are_steps c.loop-index.index)

pub returns-then-step-value-clause-last : goal.returns-then-step-value-clause-last
returns-then-step-value-clause-last c = λ h.
    let m = steps_ascend c.loop-index.index 57 (omega arith) in
    absurd (omega (arith, m, last_step, c.in-Some.ensures.value, c.if-step-value.true))

pub returns-then-step-value-clause-least : goal.returns-then-step-value-clause-least
returns-then-step-value-clause-least c = λ n s h.
    rw c.in-Some.ensures.value (least_above c.args.value n c.loop-index.index c.loop-index.invariant s h)

pub loop-index-preserved : goal.loop-index-preserved
loop-index-preserved c =
    let e = c.in-Some.ensures.value in
    below_more _ _ c.loop-index.invariant (omega (arith, e, c.if-step-value.false))

pub returns-clause-step : goal.returns-clause-step
returns-clause-step c = λ h. let b = c.loop-index.invariant 57 (omega arith) in absurd (omega (arith, b, last_step))

pub returns-clause-least : goal.returns-clause-least
returns-clause-least c = λ n s h.
    let i : c.loop-index.index ≡ 58 = omega arith in
    let l = least_above c.args.value n 58 (rw i at c.loop-index.invariant) s h in
    omega (arith, l, past_the_last)
