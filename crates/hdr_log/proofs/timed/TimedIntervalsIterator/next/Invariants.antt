use Rattle.std.proofs.Common.{◌≡◌, length}
use Rattle.hdr_log.specs.Timed.{timed}
use Rattle.hdr_log.proofs.timed.TimedIntervalsIterator.next.Given as goal

-- what is left has the same intervals
abbrev pub invariant-loop-entry : goal.invariant-loop-entry
invariant-loop-entry l = timed l.self-inside.base l.self-inside.entries ≡ l.fn.self

abbrev pub decreases-loop-entry : goal.decreases-loop-entry
decreases-loop-entry l = length l.self-inside.entries
