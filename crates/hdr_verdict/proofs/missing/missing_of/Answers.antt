use Rattle.std.proofs.Common.{◌≡◌, ℕ, List, map, IfOk, rules, ap, subst, ◌∙◌}
use Rattle.std.specs.List.{filter_map}
use Rattle.hdr_verdict.specs.declared.cell.Cell.{Cell}
use Rattle.hdr_verdict.specs.declared.rate.Rate.{Rate}
use Rattle.hdr_verdict.specs.declared.runs.Run.{Run}
use Rattle.hdr_verdict.specs.Rates.{rate_of_cell}
use Rattle.hdr_verdict.specs.Runs.{found}
use Rattle.hdr_verdict.specs.Missing.{Rates, search_of, missing_in, missing_of}
use Rattle.hdr_verdict.specs.RateSearches.{view_of_rates}
use Rattle.hdr_verdict.proofs.missing.missing_of.Goals as goal

all-is : (bar : ℕ) (cells : List Cell) (rates : List Rate) (s : Rates) (runs : List Run) → rates ≡ map rate_of_cell cells → s ≡ search_of bar rates → runs ≡ found s.search
    → filter_map (missing_in rates s.usual) runs ≡ missing_of bar cells
unfolding missing_of
all-is bar cells rates s runs e f g =
    ap (filter_map (missing_in rates s.usual)) g
    ∙ ap (λ (t : Rates). filter_map (missing_in rates t.usual) (found t.search)) f
    ∙ ap (λ xs. filter_map (missing_in xs (search_of bar xs).usual) (found (search_of bar xs).search)) e

pub returns-clause-value : goal.returns-clause-value
returns-clause-value c =
    let s = view_of_rates c.in_ok-search.search in
    let e = all-is c.args.bar c.args.cells.now c.in_ok-rates.rates.items s c.in_ok-runs.runs.items c.in_ok-rates.ensures (search rules) c.in_ok-runs.ensures in
    subst (λ xs. IfOk c.missing_in_runs.result (λ times. times.items ≡ xs)) e (search rules)
