use Rattle.std.proofs.Common.{◌+◌, arith, map}
use Rattle.std.proofs.lemmas.List.{length-map}
use Rattle.hdr_counts.proofs.BlocksSums.{sum_below_map_more, sum_below-le-sum, sum_below_all}
use Rattle.hdr_counts.proofs.adding.short_sum.Goals as goal

pub overflow_add-total : goal.overflow_add-total
overflow_add-total g c =
    let n = g.T.Counter.number in
    let xs = c.args.counters.now in
    let more = sum_below_map_more n xs c.loop-counter.counter-index c.counter-item.result c.loop-counter-test.true c.counter-item.is in
    omega (arith, more, sum_below-le-sum (map n xs) (c.loop-counter.counter-index + 1), c.as_u64-total.ensures.value, c.loop-counter.invariant, c.requires)

pub loop-counter-preserved : goal.loop-counter-preserved
loop-counter-preserved g c =
    let more = sum_below_map_more g.T.Counter.number c.args.counters.now c.loop-counter.counter-index c.counter-item.result c.loop-counter-test.true c.counter-item.is in
    omega (arith, more, c.as_u64-total.ensures.value, c.loop-counter.invariant)

pub returns : goal.returns
returns g c =
    let n = g.T.Counter.number in
    let xs = c.args.counters.now in
    omega (arith, sum_below_all (map n xs) c.loop-counter.counter-index, length-map xs n, c.loop-counter.invariant)
