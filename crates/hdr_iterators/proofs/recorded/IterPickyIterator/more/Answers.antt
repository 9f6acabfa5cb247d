use Rattle.hdr_iterators.proofs.PlacesBins.{recorded_end}
use Rattle.hdr_iterators.proofs.recorded.IterPickyIterator.more.Goals as goal

pub returns-clause-end : goal.returns-clause-end
returns-clause-end g c = λ h last e end f. recorded_end h c.args.self.now.visited last e.0 e.1 end
