-- In which order the samples of the intervals of a log are known.
use Rattle.std.specs.Prelude.{ℕ, nat_lt, if◌then◌else◌}
use Rattle.hdr_runs.specs.declared.order.Order.{Order}
use Rattle.hdr_runs.specs.declared.order.Order.TheVariants.{OfTime, FewIntervals}

-- fewer than four batches do not show how correlated samples are
abbrev pub order_of : ℕ → Order
order_of batches = if nat_lt batches 4 then FewIntervals else OfTime
