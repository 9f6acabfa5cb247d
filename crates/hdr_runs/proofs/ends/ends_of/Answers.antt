use Rattle.hdr_runs.specs.PercentileEnds.{AreEndsAt}
use Rattle.hdr_runs.specs.Points.{batches_of_side, greatest_of, least_of, samples_of_side}
use Rattle.hdr_logs.proofs.Zips.{zip-more}
use Rattle.hdr_runs.proofs.ends.ends_of.Goals as goal

pub loop-percentile-preserved : goal.loop-percentile-preserved
loop-percentile-preserved c =
    let side = c.in_ok-side.side in
    rw (c.in-Ok.ensures.items) (zip-more (AreEndsAt (samples_of_side side) (batches_of_side side) (least_of side) (greatest_of side))
    c.args.percentiles.now c.loop-percentile.ends.items c.loop-percentile.percentile-index c.percentile-item.result c.in_ok-ends_of_percentile.field-0
    c.loop-percentile-test.true c.percentile-item.is c.loop-percentile.invariant c.in_ok-ends_of_percentile.ensures.ends)
