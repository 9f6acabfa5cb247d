use Rattle.std.proofs.Common.{◌≡◌, take}
use Rattle.hdr_verdict.specs.Episodes.{last_fall}
use Rattle.hdr_verdict.proofs.episode.TagCells.last_fall.Given as goal

abbrev pub invariant-loop-time : goal.invariant-loop-time
invariant-loop-time l = l.last ≡ last_fall l.self.cells.now l.run (take l.time-index l.missing)
