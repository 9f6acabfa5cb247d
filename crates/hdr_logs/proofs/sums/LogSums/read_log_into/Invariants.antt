use Rattle.std.proofs.Common.{◌++◌, ◌≡◌, List}
use Rattle.hdr_logs.specs.Intervals.{LogInterval}
use Rattle.hdr_logs.specs.Reading.{UnreadHold, IsKnown}
use Rattle.hdr_logs.specs.Sums.{view_of_sums, decimals_of_sums, AreIndexed, KeepScale, PassesAll}
use Rattle.hdr_logs.proofs.Indices.{AreKnownOf}
use Rattle.hdr_logs.proofs.sums.LogSums.read_log_into.Given as goal

-- intervals so far are passed, and are those before the ones that are left
abbrev pub invariant-loop : goal.invariant-loop
invariant-loop g l = record {
  indices : AreIndexed l.initial.self → AreIndexed l.self;
  choice : l.self.choice ≡ l.initial.self.choice;
  scale : KeepScale l.initial.self l.self;
  known : IsKnown g.R.Read.remaining l.initial.log → IsKnown g.R.Read.remaining l.log;
  passed : AreIndexed l.initial.self → (done : List LogInterval)
      × PassesAll g.S.HistogramSink.takes (decimals_of_sums l.self) (view_of_sums l.initial.self) done (view_of_sums l.self) l.initial.sink l.sink
      × ((rest : List LogInterval) → UnreadHold g.R.Read.remaining l.log rest → UnreadHold g.R.Read.remaining l.initial.log (done ++ rest))
      × AreKnownOf done l.self.decimals;
}
