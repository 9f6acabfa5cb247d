use Rattle.std.proofs.Common.{◌≡◌, drop}
use Rattle.hdr_input.specs.Bounds.{missing_to}
use Rattle.hdr_input.proofs.bound_counts.missing_to.Given as goal

-- none before the index ends here
abbrev pub invariant-loop-count : goal.invariant-loop-count
invariant-loop-count l = missing_to l.end l.counts ≡ missing_to l.end (drop l.count-index l.counts)
