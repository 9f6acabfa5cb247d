use Rattle.std.proofs.Common.{length, ◌<◌, arith}
use Rattle.hdr_input.proofs.Counting.{map-set}
use Rattle.hdr_input.specs.Counted.{in_units_of}
use Rattle.hdr_input.proofs.bound_counts.set_units.Goals as goal

pub loop-at-preserved : goal.loop-at-preserved
loop-at-preserved c =
    let within : c.loop-at.at < length c.args.counts.now = omega (arith, c.loop-at-test.true) in
    let here : c.loop-at.at < length c.loop-at.counts = omega (arith, c.loop-at.auto.counts, within) in
    map-set (in_units_of c.args.decimals) c.args.counts.now c.loop-at.counts c.loop-at.at _ c.in_units.result within here c.loop-at.invariant c.in_units.ensures
