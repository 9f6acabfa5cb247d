use Rattle.std.proofs.Common.{below_more, arith}
use Rattle.hdr_counts.proofs.BlocksSums.{number-at}
use Rattle.hdr_counts.proofs.ends.first_nonzero.Goals as goal

pub loop-i-preserved : goal.loop-i-preserved
loop-i-preserved g c =
    let here = number-at g.T.Counter.number c.args.counters.now c.loop-i.i c.index-counters-i.result c.loop-i-test.true c.index-counters-i.is in
    below_more _ _ c.loop-i.invariant (omega (arith, here, c.as_u64.ensures.value))
