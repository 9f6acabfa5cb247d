use Rattle.std.proofs.Common.{◌≡◌, ◌≤◌, take}
use Rattle.std.specs.List.{count_by}
use Rattle.hdr_verdict.specs.declared.rate.Rate.{Rate}
use Rattle.hdr_verdict.specs.Rates.{is_slower}
use Rattle.hdr_verdict.proofs.rate.Rate.has_rank.Given as goal

abbrev pub invariant-loop-rate : goal.invariant-loop-rate
invariant-loop-rate l = record {
  below : l.below ≡ count_by (λ (r : Rate). is_slower r l.self) (take l.rate-index l.rates);
  above : l.above ≡ count_by (λ (r : Rate). is_slower l.self r) (take l.rate-index l.rates);
  below_fits : l.below ≤ l.rate-index;
  above_fits : l.above ≤ l.rate-index;
}
