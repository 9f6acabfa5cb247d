use Rattle.hdr_runs.specs.LogCounts.{AddsClasses}
use Rattle.hdr_logs.proofs.Changed.{Changed}
use Rattle.hdr_runs.proofs.log_counts.add_to_each.Given as goal

abbrev pub invariant-loop-counts : goal.invariant-loop-counts
invariant-loop-counts l = Changed (AddsClasses l.samples.factor l.samples.histogram.now) l.initial.all l.all l.counts-index
