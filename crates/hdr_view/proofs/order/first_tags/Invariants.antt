use Rattle.std.proofs.Common.{◌≡◌, Bor, map, take}
use Rattle.hdr_verdict.specs.declared.incident.Incident.{Incident}
use Rattle.hdr_view.specs.Order.{first_tags}
use Rattle.hdr_view.proofs.order.first_tags.Given as goal

abbrev pub invariant-loop-incident : goal.invariant-loop-incident
invariant-loop-incident l = l.first.items ≡ first_tags l.tags (map (λ (i : Bor Incident). i.now) (take l.incident-index l.incidents))
