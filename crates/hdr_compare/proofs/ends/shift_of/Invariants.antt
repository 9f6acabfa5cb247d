use Rattle.std.proofs.Common.{◌+◌, ◌^◌, ◌<◌, ℕ}
use Rattle.hdr_compare.proofs.ends.shift_of.Given as goal

abbrev pub invariant-loop-shift : goal.invariant-loop-shift
invariant-loop-shift l = (t : ℕ) → t < l.shift → 2 ^ (30 + t) < l.fn.samples
