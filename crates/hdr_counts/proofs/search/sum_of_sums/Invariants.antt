use Rattle.std.proofs.Common.{◌≡◌}
use Rattle.hdr_counts.specs.Blocks.{sum_below}
use Rattle.hdr_counts.proofs.search.sum_of_sums.Given as goal

abbrev pub invariant-loop-sum : goal.invariant-loop-sum
invariant-loop-sum l = l.total ≡ sum_below l.sums l.sum-index
