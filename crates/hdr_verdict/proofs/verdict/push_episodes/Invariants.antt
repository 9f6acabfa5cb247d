use Rattle.std.proofs.Common.{◌≡◌, ◌++◌, map}
use Rattle.std.specs.Vec.Iter.{into_iter_items}
use Rattle.hdr_verdict.specs.Episodes.{view_of_episode}
use Rattle.hdr_verdict.proofs.verdict.push_episodes.Given as goal

abbrev pub invariant-loop-episode : goal.invariant-loop-episode
invariant-loop-episode l =
    map view_of_episode l.episodes.items ++ map view_of_episode (into_iter_items l.episode-iterator)
    ≡ map view_of_episode l.fn.episodes.items ++ map view_of_episode l.fn.more.items
