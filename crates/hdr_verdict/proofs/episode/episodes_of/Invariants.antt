use Rattle.std.proofs.Common.{◌≡◌, ◌++◌, map, drop}
use Rattle.std.specs.Vec.Iter.{into_iter_items}
use Rattle.hdr_verdict.specs.Episodes.{missing_episode, episodes_of, view_of_episode}
use Rattle.hdr_verdict.proofs.episode.episodes_of.Given as goal

abbrev pub invariant-loop-time : goal.invariant-loop-time
invariant-loop-time l =
    map view_of_episode l.episodes.items ++ episodes_of l.tag.tag l.tag.cells.now l.tag.log_end (into_iter_items l.time-iterator) l.missing.items
    ≡ episodes_of l.tag.tag l.tag.cells.now l.tag.log_end l.fn.slow.items l.fn.missing.items

abbrev pub invariant-loop-time-2 : goal.invariant-loop-time-2
invariant-loop-time-2 l =
    map view_of_episode l.episodes.items ++ map (missing_episode l.tag.tag l.tag.cells.now l.tag.log_end) (drop l.time-index l.time-items)
    ≡ episodes_of l.tag.tag l.tag.cells.now l.tag.log_end l.fn.slow.items l.fn.missing.items
