use Rattle.std.proofs.Common.{◌≡◌, take}
use Rattle.hdr_view.specs.Naming.{least}
use Rattle.hdr_view.proofs.naming.least.Given as goal

abbrev pub invariant-loop-index : goal.invariant-loop-index
invariant-loop-index l = l.least ≡ least (take l.index-index l.indices)
