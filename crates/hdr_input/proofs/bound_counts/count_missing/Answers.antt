use Rattle.std.proofs.Common.{length, ◌<◌, arith}
use Rattle.hdr_input.proofs.Counting.{map-set}
use Rattle.hdr_input.specs.Counted.{with_missing}
use Rattle.hdr_input.proofs.bound_counts.count_missing.Goals as goal

pub loop-at-preserved : goal.loop-at-preserved
loop-at-preserved c =
    let within : c.loop-at.at < length c.args.counts.now = omega (arith, c.loop-at-test.true) in
    let here : c.loop-at.at < length c.loop-at.counts = omega (arith, c.loop-at.auto.counts, within) in
    map-set (with_missing c.args.value c.args.interval) c.args.counts.now c.loop-at.counts c.loop-at.at _ c.with_missing.result within here c.loop-at.invariant c.with_missing.ensures
