use Rattle.std.proofs.Common.{◌≡◌, ◌≢◌, ℕ, ◌<◌, true, false, length, map, get_or}
use Rattle.hdr_core.proofs.histogram.equality.same_few.Given as goal

abbrev pub invariant-loop-i : goal.invariant-loop-i
invariant-loop-i g l = record {
  same : l.same ≡ true → (k : ℕ) → k < l.i → get_or (map g.T.Counter.number l.left) k 0 ≡ get_or (map g.F.Counter.number l.right) k 0;
  other : l.same ≡ false → (k : ℕ) × (k < length l.left) × (get_or (map g.T.Counter.number l.left) k 0 ≢ get_or (map g.F.Counter.number l.right) k 0);
}
