use Rattle.std.proofs.Common.{◌≡◌, ◌+◌, map, take}
use Rattle.std.specs.List.{All}
use Rattle.hdr_gather.specs.Left.{IsFrom}
use Rattle.hdr_logs.specs.Stored.{view_of_stored}
use Rattle.hdr_gather.specs.Left.{Loses, IsReady}
use Rattle.hdr_gather.proofs.gathering.take_at.Given as goal

-- the logs go on from this time, and those so far from a later one; all that was taken begins at it, and they have lost that alone
abbrev pub invariant-loop-log : goal.invariant-loop-log
invariant-loop-log g l = record {
  rest : All (IsFrom l.start) l.logs;
  later : All (IsFrom (l.start + 1)) (take l.log-index l.logs);
  taken : All (λ i. i.start ≡ l.start) l.taken.items;
  left : Loses g.R.Read.remaining l.initial.logs l.logs (map view_of_stored l.taken.items);
  ready : All (IsReady g.R.Read.remaining) l.initial.logs → All (IsReady g.R.Read.remaining) l.logs;
}
