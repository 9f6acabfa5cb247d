use Rattle.std.proofs.Common.{◌≡◌, max, take}
use Rattle.std.specs.List.{fold}
use Rattle.hdr_verdict.specs.Episodes.{magnitude}
use Rattle.hdr_verdict.proofs.episode.greatest_magnitude.Given as goal

abbrev pub invariant-loop-rise : goal.invariant-loop-rise
invariant-loop-rise l = l.greatest ≡ fold (λ most rise. max most (magnitude rise)) 1 (take l.rise-index l.rises)
