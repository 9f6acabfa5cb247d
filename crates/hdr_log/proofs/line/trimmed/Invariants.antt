use Rattle.std.proofs.Common.{◌≡◌, length}
use Rattle.hdr_log.specs.Grammar.{without_crs}
use Rattle.hdr_log.proofs.line.trimmed.Given as goal

abbrev pub invariant-loop-last : goal.invariant-loop-last
invariant-loop-last l = without_crs l.field ≡ without_crs l.fn.field

abbrev pub decreases-loop-last : goal.decreases-loop-last
decreases-loop-last l = length l.field
