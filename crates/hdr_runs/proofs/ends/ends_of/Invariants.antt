use Rattle.std.proofs.Common.{take}
use Rattle.std.specs.List.{AllZip}
use Rattle.hdr_runs.specs.PercentileEnds.{AreEndsAt}
use Rattle.hdr_runs.specs.Points.{batches_of_side, greatest_of, least_of, samples_of_side}
use Rattle.hdr_runs.proofs.ends.ends_of.Given as goal

-- the ends so far are those of the first percentiles
abbrev pub invariant-loop-percentile : goal.invariant-loop-percentile
invariant-loop-percentile l =
    AllZip (AreEndsAt (samples_of_side l.side) (batches_of_side l.side) (least_of l.side) (greatest_of l.side)) (take l.percentile-index l.percentiles) l.ends.items
