use Rattle.std.proofs.Common.{◌≡◌, ◌+◌, ◌++◌, List, length, map}
use Rattle.std.specs.Vec.Iter.{into_iter_items}
use Rattle.hdr_verdict.specs.Episodes.{EpisodeValue, view_of_episode}
use Rattle.hdr_verdict.specs.Verdicts.{AreFound}
use Rattle.hdr_verdict.specs.declared.verdict.TagFindings.{TagFindings}
use Rattle.hdr_verdict.proofs.verdict.find_all.Given as goal

abbrev pub invariant-loop-tag : goal.invariant-loop-tag
invariant-loop-tag l = (found : List TagFindings) (more : List EpisodeValue)
    → AreFound l.bar l.levels l.log_end (length l.all.items) (into_iter_items l.tag-iterator) found more
    → AreFound l.bar l.levels l.log_end 0 l.fn.tags.items (l.all.items ++ found) (map view_of_episode l.episodes.items ++ more)
