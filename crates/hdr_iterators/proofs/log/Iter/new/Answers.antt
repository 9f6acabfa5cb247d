use Rattle.hdr_iterators.specs.Places.{log_count}
use Rattle.hdr_iterators.proofs.LogPowers.{log_within}
use Rattle.hdr_iterators.proofs.log.Iter.new.Goals as goal

pub new-requires-clause-within : goal.new-requires-clause-within
new-requires-clause-within g c =
    let h = c.binned-bins.result in
    log_within h c.args.start c.args.base 0 (log_count h c.args.start c.args.base) c.binned-bins.ensures.plain.some
