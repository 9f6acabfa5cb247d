use Rattle.std.proofs.Common.{◌≡◌, IsSome, None, take}
use Rattle.std.specs.List.{All, Any}
use Rattle.hdr_logs.specs.Scales.{exponent_of, IsGreatest}
use Rattle.hdr_logs.proofs.scales.finest_unit.Given as goal

-- the finest unit so far
abbrev pub invariant-loop-interval : goal.invariant-loop-interval
invariant-loop-interval l = record {
  exponent : IsGreatest (λ s. exponent_of s.unit) (take l.interval-index l.intervals) (exponent_of l.finest);
  some : IsSome l.finest → Any (λ s. IsSome s.unit) l.intervals;
  none : l.finest ≡ None → All (λ s. s.unit ≡ None) (take l.interval-index l.intervals);
}
