use Rattle.std.proofs.Common.{◌≡◌, ℕ, List, length}
use Rattle.std.specs.List.{All}
use Rattle.hdrhistogram.specs.LogWriters.{sink, divisor_of, IsSameLog}
use Rattle.hdr_logs.specs.Stored.{Stored}
use Rattle.hdr_gather.specs.Counts.{CountsMore}
use Rattle.hdr_gather.specs.Left.{AreIntervalsIn, Loses, IsReady, IsFrom}
use Rattle.hdr_gather.proofs.Ascending.{WritesFrom}
use Rattle.hdr_gather.proofs.gathering.write_in_order.Given as goal

-- the intervals before a time are written, and the logs have lost them alone and go on from that time
abbrev pub invariant-loop : goal.invariant-loop
invariant-loop g l = record {
  divisor : divisor_of l.log ≡ 1;
  same : IsSameLog l.initial.log l.log;
  written : (high : ℕ) × (all : List Stored) × (finer : ℕ) × WritesFrom 0 high all finer (g.W.Write.contents (sink l.initial.log).now) (g.W.Write.contents (sink l.log).now)
      × CountsMore l.initial.sums.counts (length all) finer l.sums.counts × All (IsFrom high) l.logs × Loses g.R.Read.remaining l.initial.logs l.logs all
      × AreIntervalsIn l.decimals l.unit all;
  ready : All (IsReady g.R.Read.remaining) l.initial.logs → All (IsReady g.R.Read.remaining) l.logs;
}
