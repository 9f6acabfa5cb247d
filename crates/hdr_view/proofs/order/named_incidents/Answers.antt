use Rattle.std.proofs.Common.{◌≡◌, ◌∙◌, ◌+◌, ◌++◌, ◌∷◌, [], Bor, length, refl, None, Some, map, get_or, option_to_list, take, ap, sym, append-nil}
use Rattle.std.specs.Prelude.{slice_get}
use Rattle.std.specs.List.{filter_map}
use Rattle.std.proofs.lemmas.List.{map_push}
use Rattle.std.proofs.lemmas.Option.{slice_get_past, slice_get_read}
use Rattle.hdr_verdict.specs.declared.incident.Incident.{Incident}
use Rattle.hdr_view.proofs.TagOrder.{filter_map-more}
use Rattle.hdr_view.proofs.order.named_incidents.Goals.{in-Some+in-Ok, in_default}
use Rattle.hdr_view.proofs.order.named_incidents.Goals as goal

abbrev now_of : Bor Incident → Incident
now_of i = i.now

pub loop-index-preserved : goal.loop-index-preserved
loop-index-preserved c =
    let at = slice_get c.args.incidents.now in
    let indices = c.deref-index-items.result.now in
    let i = c.loop-index.index-index in
    let index = get_or indices i 0 in
    let old = c.loop-index.named.items in
    let front = filter_map at (take i indices) in
    let more = filter_map-more at indices i 0 c.loop-index-test.true in
    elim c.match-get.branch [
      | in-Some+in-Ok w ↦ (
          let here : at index ≡ Some w.in-Some.incident.now = slice_get_read c.args.incidents.now (length c.args.incidents.now) index w.in-Some.incident.now refl w.in-Some.ensures.lookup.3.0 w.in-Some.ensures.lookup.1 in
          ap (λ n. map now_of n.items) w.named-is ∙ ap (map now_of) w.in-Ok.ensures.items ∙ map_push now_of old w.in-Some.incident
          ∙ ap (λ l. l ++ w.in-Some.incident.now ∷ []) c.loop-index.invariant ∙ sym (more ∙ ap (λ o. front ++ option_to_list o) here))
      | in_default w ↦ (
          let here : at index ≡ None = slice_get_past c.args.incidents.now index w.in_default.ensures.lookup.3 in
          ap (λ n. map now_of n.items) w.named-is ∙ c.loop-index.invariant ∙ sym (more ∙ ap (λ o. front ++ option_to_list o) here ∙ append-nil front))
    ]
