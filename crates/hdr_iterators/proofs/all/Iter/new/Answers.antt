use Rattle.hdr_iterators.proofs.PlacesBins.{all_within}
use Rattle.hdr_iterators.proofs.all.Iter.new.Goals as goal

pub new-requires-clause-within : goal.new-requires-clause-within
new-requires-clause-within g c = all_within c.binned.result
