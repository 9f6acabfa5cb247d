use Rattle.std.proofs.Common.{◌≡◌, ◌-◌, ◌^◌, min, take, if◌then◌else◌}
use Rattle.std.specs.List.{sum_by}
use Rattle.hdr_verdict.specs.declared.rate.Rate.{Rate}
use Rattle.hdr_verdict.specs.Missing.{is_empty}
use Rattle.hdr_verdict.proofs.missing.empty_time.Given as goal

abbrev pub invariant-loop-rate : goal.invariant-loop-rate
invariant-loop-rate l = l.time ≡ min (sum_by (λ (r : Rate). if is_empty r then r.time else 0) (take l.rate-index l.rates)) (2 ^ 64 - 1)
