use Rattle.std.proofs.lemmas.List.Elements.{AllWithin-more, at_read}
use Rattle.hdr_gather.specs.Left.{IsNextIn}
use Rattle.hdr_gather.proofs.gathering.are_next_in.Goals as goal

pub loop-log-preserved : goal.loop-log-preserved
loop-log-preserved g c =
    AllWithin-more (IsNextIn c.args.decimals c.args.unit) c.args.logs.now 0 c.loop-log.log-index c.loop-log.invariant
    (at_read c.args.logs.now (IsNextIn c.args.decimals c.args.unit) c.loop-log.log-index c.log-item.result c.loop-log-test.true c.log-item.is (c.is_next_in.ensures.0 c.if-not-is_next_in.false))
