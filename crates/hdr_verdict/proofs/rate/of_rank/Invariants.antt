use Rattle.std.proofs.Common.{◌≡◌, drop}
use Rattle.std.specs.List.{find}
use Rattle.hdr_verdict.specs.Rates.{has_rank}
use Rattle.hdr_verdict.proofs.rate.of_rank.Given as goal

abbrev pub invariant-loop-rate : goal.invariant-loop-rate
invariant-loop-rate l = find (has_rank l.rank l.rates) (drop l.rate-index l.rates) ≡ find (has_rank l.rank l.rates) l.rates
