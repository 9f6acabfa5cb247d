use Rattle.std.proofs.Common.{◌≡◌, ◌∷◌, map, take}
use Rattle.hdr_verdict.specs.declared.episode.Episode.{Episode}
use Rattle.hdr_view.proofs.naming.tags_of.Given as goal

abbrev pub invariant-loop-episode : goal.invariant-loop-episode
invariant-loop-episode l = l.tags.items ≡ l.incident.heaviest.tag ∷ map (λ (e : Episode). e.tag) (take l.episode-index l.episode-items)
