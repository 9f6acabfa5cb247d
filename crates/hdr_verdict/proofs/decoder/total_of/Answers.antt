use Rattle.std.proofs.Common.{◌∙◌, ◌-◌, ◌^◌, arith, ap, length, min, refl, take_all}
use Rattle.hdr_verdict.specs.ClassSamples.{values_of}
use Rattle.hdr_verdict.proofs.ClassFacts.{long-more}
use Rattle.hdr_verdict.proofs.decoder.total_of.Goals as goal

pub loop-class-preserved : goal.loop-class-preserved
loop-class-preserved c =
    omega (arith, long-more c.args.classes.now c.loop-class.class-index c.loop-class-test.true _ refl, c.loop-class.invariant, c.saturating_add-total.ensures)

pub returns : goal.returns
returns c = c.loop-class.invariant ∙ ap (λ l. min (length (values_of l)) (2 ^ 64 - 1)) (take_all c.loop-class.class-index c.args.classes.now c.loop-class-test.false)
