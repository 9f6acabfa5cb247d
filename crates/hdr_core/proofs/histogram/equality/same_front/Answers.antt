use Rattle.std.proofs.Common.{◌+◌, ◌-◌, length, refl, arith}
use Rattle.hdr_core.proofs.EqualityParts.{part-same, part-other}
use Rattle.hdr_core.proofs.histogram.equality.same_front.Goals as goal

pub loop-from-preserved : goal.loop-from-preserved
loop-from-preserved g c =
    let a = c.loop-from.from in
    record {
      same = λ k lt. part-same g.T.Counter.number g.F.Counter.number c.args.left.now c.args.right.now a (a + 16 - a) c.loop-from.invariant.same (omega arith) (omega arith) (c.if-not-same_few.ensures.equal refl) k (omega (arith, lt));
      within = omega arith;
    }

pub returns-then-not-same_few-clause-other : goal.returns-then-not-same_few-clause-other
returns-then-not-same_few-clause-other g c = λ _.
    let a = c.loop-from.from in
    part-other g.T.Counter.number g.F.Counter.number c.args.left.now c.args.right.now a (a + 16 - a) (c.if-not-same_few.ensures.other refl)

pub returns-clause-equal : goal.returns-clause-equal
returns-clause-equal g c = λ e k lt.
    let a = c.loop-from.from in
    part-same g.T.Counter.number g.F.Counter.number c.args.left.now c.args.right.now a (length c.args.left.now - a) c.loop-from.invariant.same (omega (arith, c.loop-from.invariant.within)) c.loop-from.invariant.within (c.same_few-2.ensures.equal e) k (omega (arith, lt, c.loop-from.invariant.within))

pub returns-clause-other : goal.returns-clause-other
returns-clause-other g c = λ e.
    let a = c.loop-from.from in
    part-other g.T.Counter.number g.F.Counter.number c.args.left.now c.args.right.now a (length c.args.left.now - a) (c.same_few-2.ensures.other e)
