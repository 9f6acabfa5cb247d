use Rattle.std.proofs.Common.{◌≡◌}
use Rattle.hdr_view.specs.Order.{with_others}
use Rattle.hdr_view.proofs.order.with_others.Given as goal

abbrev pub invariant-loop-tag : goal.invariant-loop-tag
invariant-loop-tag l = l.order.items ≡ with_others l.tag-counter l.first
