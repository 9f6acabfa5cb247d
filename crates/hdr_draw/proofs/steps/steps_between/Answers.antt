use Rattle.std.proofs.Common.{◌≡◌, ◌<◌, arith}
use Rattle.hdr_draw.specs.Steps.{step_of}
use Rattle.hdr_draw.proofs.Pushing.{all_of}
use Rattle.hdr_draw.proofs.StepOrder.{past_the_last}
use Rattle.hdr_draw.proofs.steps.steps_between.Goals as goal

pub returns-clause-every : goal.returns-clause-every
returns-clause-every c =
    let i : c.loop-index.index ≡ 58 = omega arith in
    let h : c.args.high < step_of 58 = omega (arith, past_the_last) in
    λ n s l k. all_of c.args.low c.args.high 58 n _ (rw i at c.loop-index.invariant) h s l k
