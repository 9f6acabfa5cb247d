use Rattle.hdr_log.proofs.PartsCounted.{reading_few, reading_places}
use Rattle.hdr_log.proofs.iterator.IntervalLogIterator.new.Goals as goal

pub returns-clause-at_most : goal.returns-clause-at_most
returns-clause-at_most c = reading_few c.args.input.now

pub returns-clause-places : goal.returns-clause-places
returns-clause-places c = reading_places c.args.input.now
