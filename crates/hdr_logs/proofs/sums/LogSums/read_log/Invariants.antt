use Rattle.std.proofs.Common.{◌++◌, ◌≡◌, List}
use Rattle.hdr_logs.specs.Intervals.{LogInterval}
use Rattle.hdr_logs.specs.Reading.{UnreadHold, IsKnown}
use Rattle.hdr_logs.specs.Sums.{view_of_sums, AreIndexed, AddsAll, KeepScale}
use Rattle.hdr_logs.proofs.sums.LogSums.read_log.Given as goal

-- intervals so far are added, and are those before the ones that are left
abbrev pub invariant-loop : goal.invariant-loop
invariant-loop g l = record {
  indices : AreIndexed l.initial.self → AreIndexed l.self;
  choice : l.self.choice ≡ l.initial.self.choice;
  scale : KeepScale l.initial.self l.self;
  known : IsKnown g.R.Read.remaining l.initial.log → IsKnown g.R.Read.remaining l.log;
  added : AreIndexed l.initial.self → (done : List LogInterval) × AddsAll (view_of_sums l.initial.self) done (view_of_sums l.self)
      × ((rest : List LogInterval) → UnreadHold g.R.Read.remaining l.log rest → UnreadHold g.R.Read.remaining l.initial.log (done ++ rest));
}
