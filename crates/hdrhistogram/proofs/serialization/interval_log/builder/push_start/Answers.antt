use Rattle.std.proofs.Common.{string_bytes}
use Rattle.hdrhistogram.proofs.LogStartsParts.{on_ok, begun}
use Rattle.hdrhistogram.proofs.serialization.interval_log.builder.push_start.Goals as goal

pub returns-clause-pushed : goal.returns-clause-pushed
returns-clause-pushed c = on_ok c.push_headers.result (λ e. begun string_bytes c.args.comments.now c.args.start_time c.args.base_time c.args.divisor c.args.text.now.items _ _ c.in_ok-push_comments.ensures.pushed e) c.push_headers.ensures.pushed
