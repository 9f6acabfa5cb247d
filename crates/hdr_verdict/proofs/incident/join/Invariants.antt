use Rattle.std.proofs.Common.{◌≡◌, [], map}
use Rattle.std.specs.List.{fold}
use Rattle.std.specs.Vec.Iter.{into_iter_items}
use Rattle.hdr_verdict.specs.Episodes.{view_of_episode}
use Rattle.hdr_verdict.specs.Incidents.{view_of_incident, with_episode}
use Rattle.hdr_verdict.proofs.incident.join.Given as goal

abbrev pub invariant-loop-episode : goal.invariant-loop-episode
invariant-loop-episode l =
    fold with_episode (map view_of_incident l.incidents.items) (map view_of_episode (into_iter_items l.episode-iterator))
    ≡ fold with_episode [] (map view_of_episode l.fn.episodes.items)
