use Rattle.std.proofs.Common.{arith}
use Rattle.hdr_runs.specs.LogCounts.{AddsClasses}
use Rattle.hdr_logs.proofs.Changed.{changed-step, changed-all}
use Rattle.hdr_runs.proofs.log_counts.add_to_each.Goals as goal

pub loop-counts-preserved : goal.loop-counts-preserved
loop-counts-preserved c =
    changed-step (AddsClasses c.args.samples.factor c.args.samples.histogram.now) c.args.all.now c.loop-counts.all c.loop-counts.counts-index _ c.add.new.self (omega (arith, c.loop-counts-test.true, c.loop-counts.auto.all)) c.loop-counts.invariant c.add.ensures

pub returns : goal.returns
returns c = changed-all (AddsClasses c.args.samples.factor c.args.samples.histogram.now) c.args.all.now c.loop-counts.all c.loop-counts.counts-index c.loop-counts.auto.all c.loop-counts-test.false c.loop-counts.invariant
