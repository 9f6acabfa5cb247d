use Rattle.std.proofs.Common.{◌≡◌, take}
use Rattle.hdr_view.specs.Order.{indices_of}
use Rattle.hdr_view.proofs.order.indices_of.Given as goal

abbrev pub invariant-loop-line : goal.invariant-loop-line
invariant-loop-line l = l.indices.items ≡ indices_of (take l.line-index l.line-items)
