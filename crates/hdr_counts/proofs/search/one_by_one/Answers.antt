use Rattle.std.proofs.Common.{arith}
use Rattle.hdr_counts.proofs.BlocksPlaces.{first-here, less-left, none-left}
use Rattle.hdr_counts.proofs.search.one_by_one.Goals as goal

pub returns-then-number-rest : goal.returns-then-number-rest
returns-then-number-rest g c =
    first-here g.T.Counter.number c.args.counters.now c.loop-i.i c.index-counters-i.result c.args.rest c.loop-i.rest c.loop-i-test.true c.index-counters-i.is
    c.loop-i.invariant.0 c.loop-i.invariant.1 (omega (arith, c.as_u64-number.ensures.value, c.if-number-rest.true))

pub loop-i-preserved : goal.loop-i-preserved
loop-i-preserved g c =
    let few = less-left g.T.Counter.number c.args.counters.now c.loop-i.i c.index-counters-i.result c.args.rest c.loop-i.rest c.loop-i-test.true c.index-counters-i.is
    c.loop-i.invariant.0 (omega (arith, c.as_u64-number.ensures.value, c.if-number-rest.false)) in
    (omega (arith, few, c.as_u64-number.ensures.value), omega arith)

pub returns : goal.returns
returns g c = none-left g.T.Counter.number c.args.counters.now c.loop-i.i c.args.rest c.loop-i.rest (omega arith) c.loop-i.invariant.0 c.loop-i.invariant.1
