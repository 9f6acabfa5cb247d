-- Runs come one after the other.
use Rattle.std.proofs.Common.{◌≡◌, ℕ, ◌+◌, ◌≤◌, ◌<◌, ◌==◌, ◌++◌, ◌∷◌, [], Bool, true, false, ◌&&◌, if◌then◌else◌, nat_le, nat_lt, refl, List, length, arith, ap, zero-add, subst, sym, ◌∙◌}
use Rattle.std.specs.List.{fold}
use Rattle.hdr_verdict.specs.declared.runs.Run.{Run}
use Rattle.hdr_verdict.specs.declared.runs.State.{State}
use Rattle.hdr_verdict.specs.declared.runs.State.TheVariants.{Outside, Within}
use Rattle.hdr_verdict.specs.declared.score.Score.{Score}
use Rattle.hdr_verdict.specs.Runs.{Search, AreInOrder, after_cell, extended, plus, minus, found, counted, runs_of, empty_search}

-- one more run behind
ordered-push : (from a b : ℕ) (runs : List Run) (run : Run) → AreInOrder from a runs → a ≤ run.start → run.start < run.end → run.end ≤ b → AreInOrder from b (runs ++ run ∷ [])
ordered-push from a b [] run h p q r = (omega arith, q, r)
ordered-push from a b (x ∷ runs) run h p q r = (h.0, h.1, ordered-push x.end a b runs run h.2 p q r)

-- a later end
ordered-more : (from a b : ℕ) (runs : List Run) → AreInOrder from a runs → a ≤ b → AreInOrder from b runs
ordered-more from a b [] h p = omega arith
ordered-more from a b (x ∷ runs) h p = (h.0, h.1, ordered-more x.end a b runs h.2 p)

-- the cell at which the next run may begin
abbrev pub next_start : ℕ → ℕ → ℕ → ℕ
next_start sum start cells = if sum == 0 then cells else start

-- the runs that are over, and the open one, are in order
abbrev pub OrderedIn : List Run → ℕ → State → Type 0
OrderedIn runs cells (Outside sum start) = AreInOrder 0 (next_start sum start cells) runs × (next_start sum start cells ≤ cells)
OrderedIn runs cells (Within run against) = AreInOrder 0 run.start runs × (run.start < run.end) × (run.end ≤ cells)

later-start : (test : Bool) (runs : List Run) (start cells : ℕ) → AreInOrder 0 start runs → start ≤ cells → AreInOrder 0 (if test then cells + 1 else start) runs × ((if test then cells + 1 else start) ≤ cells + 1)
later-start true runs start cells h p = (ordered-more 0 start (cells + 1) runs h (omega arith), omega arith)
later-start false runs start cells h p = (h, omega arith)

opened : (test : Bool) (runs : List Run) (start sum cells : ℕ) → AreInOrder 0 start runs → start ≤ cells → OrderedIn runs (cells + 1) (if test then Within (record { start = start; end = cells + 1 }) 0 else Outside sum start)
opened true runs start sum cells h p = (h, omega arith, omega arith)
opened false runs start sum cells h p = later-start (sum == 0) runs start cells h p

extended-end : (test : Bool) (run : Run) (cells : ℕ) → run.start < run.end → run.end ≤ cells → let e : Run = if test then record run { end = cells + 1 } else run in (e.start ≡ run.start) × (e.start < e.end) × (e.end ≤ cells + 1)
extended-end true run cells p q = (refl, omega arith, omega arith)
extended-end false run cells p q = (refl, p, omega arith)

over : (test : Bool) (bar cells : ℕ) (runs : List Run) (state : State) (run : Run) (against : ℕ) → AreInOrder 0 run.start runs → run.start < run.end → run.end ≤ cells + 1
    → let old : Search = record { bar = bar; runs = runs; cells = cells; state = state } in
    let s = counted (if test then record old { runs = runs ++ run ∷ []; state = Outside 0 0 } else record old { state = Within run against }) in OrderedIn s.runs s.cells s.state
over true bar cells runs state run against h p q = (ordered-push 0 run.start (cells + 1) runs run h (omega arith) p q, omega arith)
over false bar cells runs state run against h p q = (h, p, q)

pub ordered-step : (bar : ℕ) (runs : List Run) (cells : ℕ) (state : State) (a b : Score) → OrderedIn runs cells state
    → let s = after_cell (record { bar = bar; runs = runs; cells = cells; state = state }) a b in OrderedIn s.runs s.cells s.state
ordered-step bar runs cells (Outside sum start) a b h =
    opened (nat_le bar (plus sum a)) runs (next_start sum start cells) (plus sum a) cells h.0 h.1
ordered-step bar runs cells (Within run against) a b h =
    let against' = minus against b in
    let test = (against' == 0) && nat_lt b.loss b.gain in
    let e = extended-end test run cells h.1 h.2 in
    let run' = extended run cells against' b in
    let before : AreInOrder 0 run'.start runs = subst (λ n. AreInOrder 0 n runs) (sym e.0) h.0 in
    over (nat_le bar against') bar cells runs (Within run against) run' against' before e.1 e.2

-- the runs of some cells are in order
pub ordered-found : (runs : List Run) (cells bar : ℕ) (state : State) → OrderedIn runs cells state → AreInOrder 0 cells (found (record { bar = bar; runs = runs; cells = cells; state = state }))
ordered-found runs cells bar (Outside sum start) h = ordered-more 0 (next_start sum start cells) cells runs h.0 h.1
ordered-found runs cells bar (Within run against) h = ordered-push 0 run.start cells runs run h.0 (omega arith) h.1 h.2

abbrev pub both : Search → Score → Search
both s score = after_cell s score score

ordered-after : (s : Search) (scores : List Score) → OrderedIn s.runs s.cells s.state → let t = fold both s scores in OrderedIn t.runs t.cells t.state
ordered-after s [] h = h
ordered-after s (score ∷ scores) h = ordered-after (both s score) scores (ordered-step s.bar s.runs s.cells s.state score score h)

over-cells : (test : Bool) (s a b : Search) → a.cells ≡ s.cells → b.cells ≡ s.cells → (counted (if test then a else b)).cells ≡ s.cells + 1
over-cells true s a b p q = ap (λ n. n + 1) p
over-cells false s a b p q = ap (λ n. n + 1) q

pub cells-step : (bar : ℕ) (runs : List Run) (cells : ℕ) (state : State) (a b : Score) → (after_cell (record { bar = bar; runs = runs; cells = cells; state = state }) a b).cells ≡ cells + 1
cells-step bar runs cells (Outside sum start) a b = refl
cells-step bar runs cells (Within run against) a b =
    let s : Search = record { bar = bar; runs = runs; cells = cells; state = Within run against } in
    let run' = extended run cells (minus against b) b in
    over-cells (nat_le bar (minus against b)) s (record s { runs = runs ++ run' ∷ []; state = Outside 0 0 }) (record s { state = Within run' (minus against b) }) refl refl

cells-after : (s : Search) (scores : List Score) → (fold both s scores).cells ≡ s.cells + length scores
cells-after s [] = omega arith
cells-after s (score ∷ scores) = cells-after (both s score) scores ∙ omega (arith, cells-step s.bar s.runs s.cells s.state score score)

pub runs-in-order : (bar : ℕ) (scores : List Score) → AreInOrder 0 (length scores) (runs_of bar scores)
unfolding runs_of
runs-in-order bar scores =
    let t = fold both (empty_search bar) scores in
    subst (λ n. AreInOrder 0 n (found t)) (cells-after (empty_search bar) scores ∙ zero-add (length scores)) (ordered-found t.runs t.cells t.bar t.state (ordered-after (empty_search bar) scores (omega arith, omega arith)))
