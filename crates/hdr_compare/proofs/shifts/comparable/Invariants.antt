use Rattle.std.proofs.Common.{ℕ, ◌<◌}
use Rattle.hdr_compare.specs.Changes.{IsComparable}
use Rattle.hdr_compare.specs.Shifts.{shifted}
use Rattle.hdr_compare.proofs.shifts.comparable.Given as goal

abbrev pub invariant-loop-shift : goal.invariant-loop-shift
invariant-loop-shift l = (t : ℕ) → t < l.shift → IsComparable (shifted t l.fn.before) → IsComparable (shifted t l.fn.after) → ⊥
