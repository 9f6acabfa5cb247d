use Rattle.std.proofs.Common.{None}
use Rattle.hdr_iterators.proofs.PlacesBins.{recorded_within, recorded_filled}
use Rattle.hdr_iterators.proofs.recorded.Iter.new.Goals as goal

pub new-requires-clause-within : goal.new-requires-clause-within
new-requires-clause-within g c = recorded_within c.binned.result

pub new-requires-clause-filled : goal.new-requires-clause-filled
new-requires-clause-filled g c = λ _. recorded_filled c.binned.result None
