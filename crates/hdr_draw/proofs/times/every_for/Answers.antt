use Rattle.std.proofs.Common.{◌≡◌, ◌*◌, max, arith}
use Rattle.hdr_draw.specs.Steps.{most_texts}
use Rattle.hdr_draw.proofs.TimeSteps.{every_by_ceil, few_texts, more_texts}
use Rattle.hdr_draw.proofs.times.every_for.Goals.{then-step-lt-MINUTE, else-step-lt-MINUTE}
use Rattle.hdr_draw.proofs.times.every_for.Goals as goal

pub returns : goal.returns
returns c =
    let e : c.if-step-lt-MINUTE.length ≡ most_texts c.args.step * (1000 * c.args.step) = elim c.if-step-lt-MINUTE.branch [
      | then-step-lt-MINUTE w ↦ let m : most_texts c.args.step ≡ 3 = few_texts c.args.step w.if-step-lt-MINUTE.true in rw m (omega (arith, w.length-is))
      | else-step-lt-MINUTE w ↦ let m : most_texts c.args.step ≡ 4 = more_texts c.args.step w.if-step-lt-MINUTE.false in rw m (omega (arith, w.length-is))
    ] in
    let m : c.max.result ≡ max 1 c.div_ceil.result = omega (arith, c.max.ensures) in
    rw (m, c.div_ceil.ensures) (every_by_ceil c.args.span c.args.step c.if-step-lt-MINUTE.length c.requires.some e)
