use Rattle.std.proofs.Common.{arith}
use Rattle.hdr_counts.proofs.BlocksPlaces.{first-here, less-left, none-left}
use Rattle.hdr_counts.proofs.search.position_of_rank_counted.Goals as goal

pub returns-then-number-rest-clause-index : goal.returns-then-number-rest-clause-index
returns-then-number-rest-clause-index g c =
    first-here g.T.Counter.number c.args.counters.now c.loop-i.i c.index-counters-i.result c.args.rest c.loop-i.rest c.loop-i-test.true c.index-counters-i.is
    c.loop-i.invariant.0 c.loop-i.invariant.1 (omega (arith, c.as_u64-number.ensures.value, c.if-number-rest.true))

pub loop-i-preserved : goal.loop-i-preserved
loop-i-preserved g c =
    let few = less-left g.T.Counter.number c.args.counters.now c.loop-i.i c.index-counters-i.result c.args.rest c.loop-i.rest c.loop-i-test.true c.index-counters-i.is
    c.loop-i.invariant.0 (omega (arith, c.as_u64-number.ensures.value, c.if-number-rest.false)) in
    (omega (arith, few, c.as_u64-number.ensures.value), omega arith, omega (arith, c.tick.ensures, c.loop-i.invariant.2))

pub returns-clause-index : goal.returns-clause-index
returns-clause-index g c = none-left g.T.Counter.number c.args.counters.now c.loop-i.i c.args.rest c.loop-i.rest (omega arith) c.loop-i.invariant.0 c.loop-i.invariant.1
