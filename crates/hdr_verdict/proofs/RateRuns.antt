-- Runs of cells with few samples are in order.
use Rattle.std.proofs.Common.{◌≡◌, ℕ, ◌+◌, ◌*◌, ◌≤◌, List, [], ◌∷◌, length, zero-add, subst, ◌∙◌, arith}
use Rattle.std.specs.List.{All, fold}
use Rattle.std.proofs.lemmas.List.Elements.{All-cons, All-nil}
use Rattle.hdr_verdict.specs.declared.rate.Rate.{Rate}
use Rattle.hdr_verdict.specs.declared.runs.Run.{Run}
use Rattle.hdr_verdict.specs.Rates.{usual_rate}
use Rattle.hdr_verdict.specs.Runs.{AreInOrder, found}
use Rattle.hdr_verdict.specs.Missing.{Rates, after_rate, empty_rates, shortage, usual_swing, search_of, IsWithin}
use Rattle.hdr_verdict.proofs.RunOrder.{OrderedIn, ordered-step, ordered-found, cells-step}

ordered-rates : (s : Rates) (rates : List Rate) → OrderedIn s.search.runs s.search.cells s.search.state → let t = (fold after_rate s rates).search in OrderedIn t.runs t.cells t.state
ordered-rates s [] h = h
ordered-rates s (rate ∷ rates) h =
    let usual = usual_rate s.past in
    ordered-rates (after_rate s rate) rates (ordered-step s.search.bar s.search.runs s.search.cells s.search.state (shortage 1 2 usual rate) (shortage 3 4 usual rate) h)

cells-rates : (s : Rates) (rates : List Rate) → (fold after_rate s rates).search.cells ≡ s.search.cells + length rates
cells-rates s [] = omega arith
cells-rates s (rate ∷ rates) =
    let usual = usual_rate s.past in
    let step = cells-step s.search.bar s.search.runs s.search.cells s.search.state (shortage 1 2 usual rate) (shortage 3 4 usual rate) in
    cells-rates (after_rate s rate) rates ∙ omega (arith, step)

at-most : (from n : ℕ) (runs : List Run) → AreInOrder from n runs → from ≤ n
at-most from n [] h = h
at-most from n (run ∷ runs) h = let rest = at-most run.end n runs h.2 in let first = h.1 in let start = h.0 in omega arith

all-within : (from n : ℕ) (runs : List Run) → AreInOrder from n runs → All (IsWithin n) runs
all-within from n [] h = All-nil (IsWithin n)
all-within from n (run ∷ runs) h = All-cons (IsWithin n) run runs (h.1, at-most run.end n runs h.2) (all-within run.end n runs h.2)

pub runs-within : (bar : ℕ) (rates : List Rate) → All (IsWithin (length rates)) (found (search_of bar rates).search)
unfolding search_of
runs-within bar rates =
    let start = empty_rates (bar + 3 * usual_swing rates) in
    let t = (fold after_rate start rates).search in
    let n : t.cells ≡ length rates = cells-rates start rates ∙ zero-add (length rates) in
    let ordered = ordered-found t.runs t.cells t.bar t.state (ordered-rates start rates (omega arith, omega arith)) in
    subst (λ k. All (IsWithin k) (found t)) n (all-within 0 t.cells (found t) ordered)
