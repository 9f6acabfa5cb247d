-- The state of a search for runs.
use Rattle.std.specs.Prelude.{ℕ}
use Rattle.hdr_verdict.specs.declared.runs.State.{State}
use Rattle.hdr_verdict.specs.declared.runs.State.TheVariants.{Outside, Within}

-- the sum of a state, which stays below the bar
abbrev pub sum_of : State → ℕ
sum_of (Outside sum start) = sum
sum_of (Within run against) = against
