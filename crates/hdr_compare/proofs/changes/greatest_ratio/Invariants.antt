use Rattle.std.proofs.Common.{◌+◌, ◌-◌, ◌<◌, ◌≤◌}
use Rattle.hdr_compare.specs.Changes.{FallsBelowBy}
use Rattle.hdr_compare.proofs.changes.greatest_ratio.Given as goal

abbrev pub invariant-loop-low : goal.invariant-loop-low
invariant-loop-low l = (l.low ≤ l.high) × (l.high < 10000000)
    × FallsBelowBy (l.high + 1) 1000 l.fn.before l.fn.after
    × (0 < l.low → FallsBelowBy l.low 1000 l.fn.before l.fn.after → ⊥)

abbrev pub decreases-loop-low : goal.decreases-loop-low
decreases-loop-low l = l.high - l.low
