use Rattle.std.proofs.Common.{◌∙◌, refl, subst, take_all}
use Rattle.hdr_verdict.specs.ClassSamples.{GainsFew, values_of}
use Rattle.hdr_verdict.proofs.ClassFacts.{gains-none, gains-more}
use Rattle.hdr_verdict.proofs.width.record_all.Goals as goal

pub loop-class-init : goal.loop-class-init
loop-class-init c = record { classes = refl; gains = gains-none c.args.sum.now }

pub loop-class-preserved : goal.loop-class-preserved
loop-class-preserved c = record {
  classes = c.record_one.ensures.classes ∙ c.loop-class.invariant.classes;
  gains = gains-more c.args.classes.now c.loop-class.class-index c.loop-class-test.true _ refl c.args.sum.now c.loop-class.sum c.record_one.new.sum c.loop-class.invariant.gains c.in_ok-record_one.ensures.samples;
}

pub returns-clause-samples : goal.returns-clause-samples
returns-clause-samples c =
    subst (λ l. GainsFew c.args.sum.now c.loop-class.sum (values_of l)) (take_all c.loop-class.class-index c.args.classes.now c.loop-class-test.false) c.loop-class.invariant.gains
