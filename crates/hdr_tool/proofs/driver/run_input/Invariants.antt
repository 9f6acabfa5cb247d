use Rattle.hdr_tool.proofs.Common.{◌≡◌, ◌<◌, true, length, sink, IsSameLog}
use Rattle.hdr_tool.proofs.OutcomesRuns.{Streamed}
use Rattle.hdr_tool.proofs.driver.run_input.Given as goal

abbrev pub invariant-loop : goal.invariant-loop
invariant-loop g l = record {
  room : 0 < length l.piece;
  grows : l.histogram.auto_resize ≡ true;
  same : IsSameLog l.fn.log l.log;
  streamed : Streamed l.fn.is_log l.fn.histogram l.histogram l.number l.carry.items (g.R.Read.remaining l.fn.reader) (g.R.Read.remaining l.reader) (g.W.Write.contents (sink l.fn.log).now) (g.W.Write.contents (sink l.log).now);
}
