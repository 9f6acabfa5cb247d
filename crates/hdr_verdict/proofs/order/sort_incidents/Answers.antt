use Rattle.std.proofs.Common.{Bool, rules}
use Rattle.std.specs.Ordering.{is_lt}
use Rattle.std.proofs.lemmas.List.Sorted.{answers_always, ranks_by, IsPermutation-map}
use Rattle.hdr_verdict.specs.declared.incident.Incident.{Incident}
use Rattle.hdr_verdict.specs.declared.order.Key.{Key}
use Rattle.hdr_verdict.specs.Incidents.{view_of_incident, key_of_incident, key_cmp}
use Rattle.hdr_verdict.proofs.Keys.{key_total, sorted-map}
use Rattle.hdr_verdict.proofs.order.sort_incidents.Goals as goal

abbrev key_at : Incident → Key
key_at i = key_of_incident (view_of_incident i)

pub returns-clause-permutation : goal.returns-clause-permutation
returns-clause-permutation c = IsPermutation-map view_of_incident c.args.incidents.now.items c.sort_by.new.self.items c.in_ok-sort_by.ensures.permutation

pub returns-clause-sorted : goal.returns-clause-sorted
returns-clause-sorted c =
    let lt : Incident → Incident → Bool = λ i j. is_lt (key_cmp (key_at i) (key_at j)) in
    sorted-map view_of_incident key_of_incident c.sort_by.new.self.items (c.in_ok-sort_by.ensures.sorted lt (ranks_by key_total key_at) (answers_always _ _ _ (λ f a r f' k. search rules)))
