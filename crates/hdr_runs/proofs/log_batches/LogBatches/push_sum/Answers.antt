use Rattle.std.proofs.Common.{◌∙◌}
use Rattle.hdr_runs.proofs.log_batches.LogBatches.push_sum.Goals as goal

pub returns-clause-sums : goal.returns-clause-sums
returns-clause-sums c = (
  c.in-Ok.batching,
  record { none = c.in-Ok.ensures.none; digits_are = c.in-Ok.ensures.digits ∙ c.min.ensures },
  c.in_ok-push.ensures.items,
)
