use Rattle.std.proofs.Common.{◌↔◌, IsSome}
use Rattle.std.specs.List.{AllWithin}
use Rattle.hdr_logs.proofs.scales.check_known.Given as goal

-- the intervals so far have a unit, or none
abbrev pub invariant-loop-interval : goal.invariant-loop-interval
invariant-loop-interval l = AllWithin (λ s. IsSome s.unit ↔ IsSome l.unit) l.intervals 0 l.interval-index
