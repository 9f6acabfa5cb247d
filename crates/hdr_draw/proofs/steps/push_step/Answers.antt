use Rattle.std.proofs.Common.{arith}
use Rattle.hdr_draw.proofs.Pushing.{left_out, pushed}
use Rattle.hdr_draw.proofs.steps.push_step.Goals.{else-step-low-via-then-step-low+else-step-high, else-step-low-via-else-step-low}
use Rattle.hdr_draw.proofs.steps.push_step.Goals as goal

pub returns-in_ok-push : goal.returns-in_ok-push
returns-in_ok-push c =
    let e = c.in-Some.ensures.value in
    rw (c.in_ok-push.ensures.items, e) (pushed c.args.low c.args.high c.args.index _ c.requires (rw e at c.if-step-low.true) (rw e at c.if-step-high.true))

pub returns-else-step-low : goal.returns-else-step-low
returns-else-step-low c =
    let e = c.in-Some.ensures.value in
    left_out c.args.low c.args.high c.args.index _ c.requires (λ h k. elim c.else-step-low.branch [
      | else-step-low-via-then-step-low+else-step-high w ↦ absurd (omega (arith, e, w.if-step-high.false))
      | else-step-low-via-else-step-low w ↦ absurd (omega (arith, e, w.if-step-low.false))
    ])

pub returns-in_default : goal.returns-in_default
returns-in_default c = left_out c.args.low c.args.high c.args.index _ c.requires (λ h k. absurd (omega (arith, c.in_default.ensures.overflow)))
