use Rattle.std.proofs.Common.{◌∙◌, ◌-◌, ◌^◌, arith, ap, count_by, leb, min, refl, take_all}
use Rattle.hdr_verdict.specs.ClassSamples.{values_of}
use Rattle.hdr_verdict.proofs.ClassFacts.{count-yes, count-no}
use Rattle.hdr_verdict.proofs.width.count_from.Goals as goal
use Rattle.hdr_verdict.proofs.width.count_from.Goals.{then-class-first, else-class-first}

pub loop-class-preserved : goal.loop-class-preserved
loop-class-preserved c = elim c.if-class-first.branch [
  | then-class-first w ↦ omega (arith, count-yes c.args.classes.now c.loop-class.class-index c.loop-class-test.true _ refl c.args.first w.if-class-first.true, c.loop-class.invariant, w.saturating_add-count.ensures, w.count-is)
  | else-class-first w ↦ omega (arith, count-no c.args.classes.now c.loop-class.class-index c.loop-class-test.true _ refl c.args.first w.if-class-first.false, c.loop-class.invariant, w.count-is)
]

pub returns : goal.returns
returns c = c.loop-class.invariant ∙ ap (λ l. min (count_by (leb c.args.first) (values_of l)) (2 ^ 64 - 1)) (take_all c.loop-class.class-index c.args.classes.now c.loop-class-test.false)
