use Rattle.std.proofs.Common.{◌≡◌, ℕ, ◌-◌, ◌<◌, ◌≤◌, length, map, get_or}
use Rattle.hdr_core.proofs.histogram.equality.same_front.Given as goal

abbrev pub invariant-loop-from : goal.invariant-loop-from
invariant-loop-from g l = record {
  same : (k : ℕ) → k < l.from → get_or (map g.T.Counter.number l.left) k 0 ≡ get_or (map g.F.Counter.number l.right) k 0;
  within : l.from ≤ length l.left;
}

abbrev pub decreases-loop-from : goal.decreases-loop-from
decreases-loop-from g l = length l.left - l.from
