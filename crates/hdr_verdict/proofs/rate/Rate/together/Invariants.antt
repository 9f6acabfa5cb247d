use Rattle.std.proofs.Common.{◌≡◌, ◌-◌, ◌^◌, min, take}
use Rattle.std.specs.List.{sum_by}
use Rattle.hdr_verdict.specs.declared.rate.Rate.{Rate}
use Rattle.hdr_verdict.proofs.rate.Rate.together.Given as goal

abbrev pub invariant-loop-rate : goal.invariant-loop-rate
invariant-loop-rate l = record {
  samples : l.samples ≡ min (sum_by (λ (r : Rate). r.samples) (take l.rate-index l.rates)) (2 ^ 64 - 1);
  time : l.time ≡ min (sum_by (λ (r : Rate). r.time) (take l.rate-index l.rates)) (2 ^ 64 - 1);
}
