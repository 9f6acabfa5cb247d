use Rattle.std.proofs.Common.{arith, below_more, rules}
use Rattle.std.proofs.lemmas.Grind.{div_ceil_times}
use Rattle.hdr_draw.specs.Steps.{time_steps}
use Rattle.hdr_draw.proofs.TimeSteps.{shortest_of_table, some_months}
use Rattle.hdr_draw.proofs.times.step_for.Goals as goal

pub returns-then-has_few-clause-is : goal.returns-then-has_few-clause-is
unfolding time_steps
returns-then-has_few-clause-is c =
    shortest_of_table c.args.span c.loop-step.step-index c.loop-step-test.true c.loop-step.invariant (c.has_few.ensures.0 c.if-has_few.true)

pub loop-step-preserved : goal.loop-step-preserved
unfolding time_steps
loop-step-preserved c = below_more _ _ c.loop-step.invariant (λ h. absurd (search (rules, c.if-has_few.false, c.has_few.ensures.1 h)))

pub returns-clause-is : goal.returns-clause-is
returns-clause-is c =
    let b = rw (← c.div_ceil.ensures) at (div_ceil_times c.args.span 20736000000 (omega arith)) in
    some_months c.args.span c.div_ceil.result (λ k h. c.loop-step.invariant k (omega (arith, h))) b.0 b.1
