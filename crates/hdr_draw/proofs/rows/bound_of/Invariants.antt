use Rattle.std.proofs.Common.{◌≤◌, ◌<◌, ◌^◌, ◌-◌}
use Rattle.hdr_draw.specs.Rows.{number}
use Rattle.hdr_draw.proofs.rows.bound_of.Given as goal

abbrev pub invariant-loop-bound : goal.invariant-loop-bound
invariant-loop-bound l = (l.below < l.bound) × (l.below ^ 40 < number l.power.items) × (number l.power.items ≤ l.bound ^ 40)

abbrev pub decreases-loop-bound : goal.decreases-loop-bound
decreases-loop-bound l = l.bound - l.below
