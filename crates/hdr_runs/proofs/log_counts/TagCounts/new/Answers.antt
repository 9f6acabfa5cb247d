use Rattle.std.proofs.Common.{refl}
use Rattle.hdr_runs.proofs.log_counts.TagCounts.new.Goals as goal

pub returns-clause-counted : goal.returns-clause-counted
returns-clause-counted c = λ few. record { at_levels = c.in_ok-empty_counts.ensures few; in_sum = λ has. record { total = refl; low = refl; high = refl } }
