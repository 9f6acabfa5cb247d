use Rattle.std.proofs.Common.{◌≡◌, drop}
use Rattle.std.specs.List.{find}
use Rattle.hdr_verdict.specs.Episodes.{begins_in}
use Rattle.hdr_verdict.proofs.episode.TagCells.stall_start.Given as goal

abbrev pub invariant-loop-time : goal.invariant-loop-time
invariant-loop-time l = find (begins_in l.run) (drop l.time-index l.missing) ≡ find (begins_in l.run) l.missing
