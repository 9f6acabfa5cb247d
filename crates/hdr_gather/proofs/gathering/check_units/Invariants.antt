use Rattle.std.proofs.Common.{◌≡◌}
use Rattle.std.specs.List.{AllWithin}
use Rattle.hdr_gather.proofs.gathering.check_units.Given as goal

-- the intervals so far have this unit
abbrev pub invariant-loop-interval : goal.invariant-loop-interval
invariant-loop-interval l = AllWithin (λ i. i.unit ≡ l.unit) l.intervals 0 l.interval-index
