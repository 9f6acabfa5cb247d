use Rattle.std.proofs.Common.{◌≤◌}
use Rattle.hdr_compare.specs.Intervals.{CountsAs}
use Rattle.hdr_compare.specs.Nearest.{IsReachedDown}
use Rattle.hdr_compare.proofs.run.Run.low_end.Given as goal

abbrev pub invariant-loop : goal.invariant-loop
invariant-loop l = (l.independent ≤ l.fn.independent) × CountsAs l.fn.self.batches.items l.fn.tier l.fn.independent l.independent
    × IsReachedDown l.fn.self.all l.fn.self.batches.items l.fn.quantile l.fn.tier l.independent l.counter l.fn.value l.low
