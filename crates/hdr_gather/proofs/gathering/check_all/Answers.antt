use Rattle.std.proofs.Common.{◌≡◌}
use Rattle.std.proofs.lemmas.List.Elements.{AllWithin-more, at_read}
use Rattle.hdr_logs.specs.Stored.{decimals_of}
use Rattle.hdr_gather.proofs.gathering.check_all.Goals as goal

pub loop-interval-preserved : goal.loop-interval-preserved
loop-interval-preserved c =
    AllWithin-more (λ i. decimals_of i ≡ c.args.decimals) c.args.intervals.now 0 c.loop-interval.interval-index c.loop-interval.invariant
    (at_read c.args.intervals.now (λ i. decimals_of i ≡ c.args.decimals) c.loop-interval.interval-index c.interval-item.result c.loop-interval-test.true c.interval-item.is c.in_ok-check_decimals.ensures.ok)
