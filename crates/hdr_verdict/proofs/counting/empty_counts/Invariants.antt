use Rattle.std.proofs.Common.{ℕ, List, take}
use Rattle.std.specs.List.{AllZip}
use Rattle.hdr_verdict.specs.CountsAboveFor.{AreCountsOf}
use Rattle.hdr_verdict.proofs.counting.empty_counts.Given as goal

abbrev pub invariant-loop-value : goal.invariant-loop-value
invariant-loop-value l = (cells : List (List ℕ)) → AllZip (AreCountsOf cells 0) (take l.value-index l.values) l.all.items
