use Rattle.std.proofs.Common.{[], take}
use Rattle.std.specs.List.{All}
use Rattle.hdr_gather.specs.Left.{Loses, IsKnown, IsReady}
use Rattle.hdr_gather.proofs.gathering.begin_logs.Given as goal

-- no interval is lost, and the logs so far are ready
abbrev pub invariant-loop-log : goal.invariant-loop-log
invariant-loop-log g l = record {
  left : Loses g.R.Read.remaining l.initial.logs l.logs [];
  known : All (IsKnown g.R.Read.remaining) l.initial.logs → All (IsKnown g.R.Read.remaining) l.logs;
  ready : All (IsKnown g.R.Read.remaining) l.initial.logs → All (IsReady g.R.Read.remaining) (take l.log-index l.logs);
}
