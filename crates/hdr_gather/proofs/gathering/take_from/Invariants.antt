use Rattle.std.proofs.Common.{◌≡◌}
use Rattle.std.specs.List.{All}
use Rattle.hdr_gather.specs.Left.{Takes, IsReady, IsFrom}
use Rattle.hdr_gather.proofs.gathering.take_from.Given as goal

-- the log goes on from this time, at which all that was taken begins
abbrev pub invariant-loop : goal.invariant-loop
invariant-loop g l = record {
  rest : IsFrom l.start l.log;
  taken : All (λ i. i.start ≡ l.start) l.taken.items;
  left : Takes g.R.Read.remaining l.initial.log l.log l.initial.taken.items l.taken.items;
  ready : IsReady g.R.Read.remaining l.initial.log → IsReady g.R.Read.remaining l.log;
}
