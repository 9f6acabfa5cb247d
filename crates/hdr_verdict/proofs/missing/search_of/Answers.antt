use Rattle.std.proofs.Common.{◌≡◌, length, arith, sym, subst}
use Rattle.std.specs.List.{All}
use Rattle.std.proofs.lemmas.Grind.{common_steps}
use Rattle.hdr_verdict.specs.Runs.{found}
use Rattle.hdr_verdict.specs.Missing.{Rates, search_of, IsWithin}
use Rattle.hdr_verdict.specs.RateSearches.{view_of_rates}
use Rattle.hdr_verdict.proofs.RateRuns.{runs-within}
use Rattle.hdr_verdict.proofs.missing.search_of.Goals as goal

pub returns-clause-runs : goal.returns-clause-runs
unfolding search_of
returns-clause-runs c =
    let value : view_of_rates c.loop-rate.search ≡ search_of c.args.bar c.args.rates.now = grind (arith, common_steps) in
    subst (λ (s : Rates). All (IsWithin (length c.args.rates.now)) (found s.search)) (sym value) (runs-within c.args.bar c.args.rates.now)
