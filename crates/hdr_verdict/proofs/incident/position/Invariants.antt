use Rattle.std.proofs.Common.{◌≡◌, ◌+◌, drop}
use Rattle.hdr_verdict.specs.Episodes.{view_of_episode}
use Rattle.hdr_verdict.proofs.Joining.{first_for}
use Rattle.hdr_verdict.proofs.incident.position.Given as goal

abbrev pub invariant-loop-index : goal.invariant-loop-index
invariant-loop-index l = l.index + first_for (view_of_episode l.episode) (drop l.index l.incidents) ≡ first_for (view_of_episode l.episode) l.incidents
