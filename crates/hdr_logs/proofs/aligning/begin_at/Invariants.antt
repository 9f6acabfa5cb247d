use Rattle.std.proofs.Common.{◌≡◌, ◌++◌, map, take, drop}
use Rattle.hdr_logs.specs.Stored.{view_of_stored, decimals_of}
use Rattle.hdr_logs.specs.Aligned.{moved}
use Rattle.hdr_logs.proofs.aligning.begin_at.Given as goal

-- the intervals so far are moved, and those behind stay
abbrev pub invariant-loop-interval : goal.invariant-loop-interval
invariant-loop-interval l = record {
  moved : map view_of_stored l.intervals
      ≡ map (moved l.first l.start) (take l.interval-index (map view_of_stored l.initial.intervals)) ++ drop l.interval-index (map view_of_stored l.initial.intervals);
  decimals : map decimals_of l.intervals ≡ map decimals_of l.initial.intervals;
  unit : map (λ s. s.unit) l.intervals ≡ map (λ s. s.unit) l.initial.intervals;
}
