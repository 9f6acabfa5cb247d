use Rattle.std.proofs.Common.{◌≡◌, ◌≤◌, ◌-◌, ℕ, length}
use Rattle.hdrhistogram.specs.LogWriters.{sink, divisor_of, IsSameLog}
use Rattle.hdr_gather.specs.Counts.{CountsMore}
use Rattle.hdr_gather.specs.Keys.{all_of}
use Rattle.hdr_gather.proofs.Groups.{WritesUpTo}
use Rattle.hdr_gather.proofs.writing.write_parts.Given as goal

-- the intervals so far are written
abbrev pub invariant-loop-at : goal.invariant-loop-at
invariant-loop-at g l = record {
  divisor : divisor_of l.log ≡ 1;
  same : IsSameLog l.initial.log l.log;
  within : l.at ≤ length l.parts;
  written : (finer : ℕ) × WritesUpTo (all_of l.parts) l.at finer (g.W.Write.contents (sink l.initial.log).now) (g.W.Write.contents (sink l.log).now)
      × CountsMore l.initial.sums.counts l.at finer l.sums.counts;
}

abbrev pub decreases-loop-at : goal.decreases-loop-at
decreases-loop-at g l = length l.parts - l.at
