use Rattle.std.proofs.Common.{◌≡◌, ◌++◌, map, take, drop}
use Rattle.hdr_input.specs.Counted.{in_units_of}
use Rattle.hdr_input.proofs.bound_counts.set_units.Given as goal

-- those before the index are changed
abbrev pub invariant-loop-at : goal.invariant-loop-at
invariant-loop-at l = l.counts ≡ map (in_units_of l.decimals) (take l.at l.initial.counts) ++ drop l.at l.initial.counts
