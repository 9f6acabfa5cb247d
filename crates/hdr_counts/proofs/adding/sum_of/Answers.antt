use Rattle.std.proofs.Common.{arith, map}
use Rattle.std.proofs.lemmas.List.{length-map}
use Rattle.hdr_counts.proofs.BlocksSums.{sum_below_map_more, sum_below_all}
use Rattle.hdr_counts.proofs.adding.sum_of.Goals as goal

pub loop-counter-preserved : goal.loop-counter-preserved
loop-counter-preserved g c =
    let more = sum_below_map_more g.T.Counter.number c.args.counters.now c.loop-counter.counter-index c.counter-item.result c.loop-counter-test.true c.counter-item.is in
    (omega (arith, more, c.as_u64.ensures.value), omega (arith, c.as_u64.type_inv))

pub returns : goal.returns
returns g c =
    let n = g.T.Counter.number in
    let xs = c.args.counters.now in
    omega (arith, sum_below_all (map n xs) c.loop-counter.counter-index, length-map xs n, c.loop-counter.invariant.0)
