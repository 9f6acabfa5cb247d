use Rattle.hdr_runs.proofs.LogTags.{takes-converted, all-ok}
use Rattle.hdr_runs.proofs.log_counts.LogCounts.take_converted.Goals as goal

pub returns-in-Ok-clause-taken : goal.returns-in-Ok-clause-taken
returns-in-Ok-clause-taken c =
    all-ok c.add_at.result (λ inside samples batches.
    takes-converted c.args.self.now c.parse_levels.new.self c.push_tags.new.self c.add_at.new.self c.args.sum c.saturating_add.result
    c.args.samples.factor c.args.samples.histogram.now c.args.histogram.now c.args.decimals
    c.in_ok-parse_levels.ensures.levels c.parse_levels.ensures.tags c.push_tags.ensures.tags c.in-Ok.ensures.count c.saturating_add.ensures c.ranges.sum.fits
    c.add_at.ensures.levels c.add_at.ensures.asked c.add_at.ensures.tags inside samples batches) c.add_at.ensures.inside c.add_at.ensures.samples c.add_at.ensures.batches
