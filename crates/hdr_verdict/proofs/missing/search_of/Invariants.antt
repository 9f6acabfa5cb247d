use Rattle.std.proofs.Common.{◌≡◌, take}
use Rattle.std.specs.List.{fold}
use Rattle.hdr_verdict.specs.Missing.{after_rate, empty_rates}
use Rattle.hdr_verdict.specs.RateSearches.{view_of_rates}
use Rattle.hdr_verdict.proofs.missing.search_of.Given as goal

abbrev pub invariant-loop-rate : goal.invariant-loop-rate
invariant-loop-rate l = record {
  so_far : view_of_rates l.search ≡ fold after_rate (empty_rates l.bar) (take l.rate-index l.rates);
  cells : (view_of_rates l.search).search.cells ≡ l.rate-index;
}
