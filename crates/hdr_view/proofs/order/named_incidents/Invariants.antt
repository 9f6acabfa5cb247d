use Rattle.std.proofs.Common.{◌≡◌, Bor, map, take}
use Rattle.std.specs.Prelude.{slice_get}
use Rattle.std.specs.List.{filter_map}
use Rattle.hdr_verdict.specs.declared.incident.Incident.{Incident}
use Rattle.hdr_view.proofs.order.named_incidents.Given as goal

abbrev pub invariant-loop-index : goal.invariant-loop-index
invariant-loop-index l = map (λ (i : Bor Incident). i.now) l.named.items ≡ filter_map (slice_get l.incidents) (take l.index-index l.index-items)
