use Rattle.std.proofs.Common.{◌≡◌, take}
use Rattle.std.specs.List.{fold}
use Rattle.hdr_view.specs.Order.{with_first}
use Rattle.hdr_view.proofs.order.push_firsts.Given as goal

abbrev pub invariant-loop-tag : goal.invariant-loop-tag
invariant-loop-tag l = l.first.items ≡ fold (with_first l.tags) l.initial.first.items (take l.tag-index l.more)
