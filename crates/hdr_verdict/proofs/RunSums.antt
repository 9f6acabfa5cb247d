-- The scores of each run sum to the bar or more.
use Rattle.std.proofs.Common.{◌≡◌, ℕ, zero, suc, ◌+◌, ◌≤◌, ◌<◌, ◌==◌, ◌++◌, ◌∷◌, [], Bool, true, false, ◌&&◌, if◌then◌else◌, nat_le, nat_lt, List, length, get_or, take, drop, arith, refl, ap, subst, sym, ◌∙◌, add-one, take_all}
use Rattle.std.specs.List.{sum_by, slice_range, AllByRecursion}
use Rattle.std.proofs.lemmas.Bool.Decides.{nat_tests}
use Rattle.std.proofs.lemmas.List.Sums.{sum_by-take-drop, sum_by_more, fold_more, sum_by-append}
use Rattle.std.proofs.lemmas.List.Folds.{drop_split}
use Rattle.std.specs.List.{fold}
use Rattle.hdr_verdict.specs.declared.runs.Run.{Run}
use Rattle.hdr_verdict.specs.declared.runs.State.{State}
use Rattle.hdr_verdict.specs.declared.runs.State.TheVariants.{Outside, Within}
use Rattle.hdr_verdict.specs.declared.score.Score.{Score}
use Rattle.hdr_verdict.specs.Runs.{Search, extended, plus, minus, found, counted, runs_of, empty_search, ReachesBar}
use Rattle.hdr_verdict.proofs.RunOrder.{next_start, both, cells-step}

-- gains and losses up to each cell: the scores from a cell to another sum to the bar or more
abbrev pub Reaches : (bar : ℕ) (G L : ℕ → ℕ) → Run → Type 0
Reaches bar G L run = (run.start ≤ run.end) × (bar + L run.end + G run.start ≤ G run.end + L run.start)

-- what the sums of a state are of
abbrev pub SumsIn : (bar : ℕ) (G L : ℕ → ℕ) → ℕ → State → Type 0
SumsIn bar G L cells (Outside sum start) = 0 < sum → (start ≤ cells) × (sum + L cells + G start ≡ G cells + L start)
SumsIn bar G L cells (Within run against) = Reaches bar G L run × (run.end ≤ cells) × (bar + L cells + G run.start ≤ G cells + L run.start + against)

abbrev pub IsNext : (ℕ → ℕ) → ℕ → ℕ → Type 0
IsNext G cells g = G (cells + 1) ≡ G cells + g

next-later : (sum start cells : ℕ) → 0 < sum → next_start sum start cells ≡ start
next-later sum start cells some = grind (arith, nat_tests)

sum-goes-on : (G L : ℕ → ℕ) (bar cells sum start : ℕ) (e : Score) → IsNext G cells e.gain → IsNext L cells e.loss → SumsIn bar G L cells (Outside sum start)
    → 0 < plus sum e → (next_start sum start cells ≤ cells) × (plus sum e + L (cells + 1) + G (next_start sum start cells) ≡ G (cells + 1) + L (next_start sum start cells))
sum-goes-on G L bar cells zero start e g l h some = (omega arith, omega arith)
sum-goes-on G L bar cells (suc n) start e g l h some =
    let begins = next-later (suc n) start cells (omega arith) in
    let old = h (omega arith) in
    let before : start ≤ cells = old.0 in
    let is : suc n + L cells + G start ≡ G cells + L start = old.1 in
    let sums : plus (suc n) e + L (cells + 1) + G start ≡ G (cells + 1) + L start = omega arith in
    (subst (λ s. s ≤ cells) (sym begins) before, subst (λ s. plus (suc n) e + L (cells + 1) + G s ≡ G (cells + 1) + L s) (sym begins) sums)

opened-sums : (test : Bool) (G L : ℕ → ℕ) (bar cells start sum : ℕ) → test ≡ nat_le bar sum → 0 < bar
    → (0 < sum → (start ≤ cells) × (sum + L (cells + 1) + G start ≡ G (cells + 1) + L start))
    → SumsIn bar G L (cells + 1) (if test then Within (record { start = start; end = cells + 1 }) 0 else Outside sum start)
opened-sums true G L bar cells start sum is some h =
    let at : bar ≤ sum = grind (arith, nat_tests) in
    let now = h (omega arith) in
    let begins : start ≤ cells = now.0 in
    let sums : sum + L (cells + 1) + G start ≡ G (cells + 1) + L start = now.1 in
    ((omega arith, omega arith), omega arith, omega arith)
opened-sums false G L bar cells start sum is some h = λ p. let now = h p in let begins : start ≤ cells = now.0 in (omega arith, now.1)

-- a run that was extended, or not
extended-sums : (zero-against gains : Bool) (G L : ℕ → ℕ) (bar cells against : ℕ) (run : Run) → zero-against ≡ (against == 0) → Reaches bar G L run → run.end ≤ cells
    → bar + L (cells + 1) + G run.start ≤ G (cells + 1) + L run.start + against
    → let e : Run = if zero-against && gains then record run { end = cells + 1 } else run in
    Reaches bar G L e × (e.end ≤ cells + 1) × (bar + L (cells + 1) + G e.start ≤ G (cells + 1) + L e.start + against)
extended-sums true true G L bar cells against run is reaches within sums =
    let none : against ≡ 0 = grind (arith, nat_tests) in
    let begins : run.start ≤ run.end = reaches.0 in
    ((omega arith, omega arith), omega arith, sums)
extended-sums true false G L bar cells against run is reaches within sums = (reaches, omega arith, sums)
extended-sums false gains G L bar cells against run is reaches within sums = (reaches, omega arith, sums)

-- all runs that are over reach the bar
abbrev pub AllReach : (bar : ℕ) (G L : ℕ → ℕ) → List Run → Type 0
AllReach bar G L runs = AllByRecursion (Reaches bar G L) runs

all-push : (bar : ℕ) (G L : ℕ → ℕ) (runs : List Run) (run : Run) → AllReach bar G L runs → Reaches bar G L run → AllReach bar G L (runs ++ run ∷ [])
all-push bar G L [] run all one = (one, tt)
all-push bar G L (x ∷ runs) run all one = (all.0, all-push bar G L runs run all.1 one)

over-sums : (test : Bool) (G L : ℕ → ℕ) (bar cells : ℕ) (runs : List Run) (state : State) (run : Run) (against : ℕ)
    → AllReach bar G L runs → Reaches bar G L run → run.end ≤ cells + 1 → bar + L (cells + 1) + G run.start ≤ G (cells + 1) + L run.start + against
    → let old : Search = record { bar = bar; runs = runs; cells = cells; state = state } in
    let s = counted (if test then record old { runs = runs ++ run ∷ []; state = Outside 0 0 } else record old { state = Within run against }) in
    AllReach bar G L s.runs × SumsIn bar G L (cells + 1) s.state
over-sums true G L bar cells runs state run against all reaches within sums = (all-push bar G L runs run all reaches, λ none. absurd (omega arith))
over-sums false G L bar cells runs state run against all reaches within sums = (all, (reaches, within, sums))

pub sums-step : (G L : ℕ → ℕ) (bar : ℕ) (runs : List Run) (cells : ℕ) (state : State) (e : Score) → 0 < bar → IsNext G cells e.gain → IsNext L cells e.loss
    → AllReach bar G L runs → SumsIn bar G L cells state
    → let s = both (record { bar = bar; runs = runs; cells = cells; state = state }) e in
    AllReach bar G L s.runs × SumsIn bar G L (cells + 1) s.state
sums-step G L bar runs cells (Outside sum start) e some g l all h =
    (all, opened-sums (nat_le bar (plus sum e)) G L bar cells (next_start sum start cells) (plus sum e) refl some (sum-goes-on G L bar cells sum start e g l h))
sums-step G L bar runs cells (Within run against) e some g l all h =
    let against' = minus against e in
    let sums : bar + L cells + G run.start ≤ G cells + L run.start + against = h.2 in
    let now : bar + L (cells + 1) + G run.start ≤ G (cells + 1) + L run.start + against' = omega arith in
    let x = extended-sums (against' == 0) (nat_lt e.loss e.gain) G L bar cells against' run refl h.0 h.1 now in
    over-sums (nat_le bar against') G L bar cells runs (Within run against) (extended run cells against' e) against' all x.0 x.1 x.2

abbrev pub gains_to : List Score → ℕ → ℕ
gains_to scores n = sum_by (λ score. score.gain) (take n scores)

abbrev pub losses_to : List Score → ℕ → ℕ
losses_to scores n = sum_by (λ score. score.loss) (take n scores)

over-bar : (test : Bool) (s a b : Search) → a.bar ≡ s.bar → b.bar ≡ s.bar → (counted (if test then a else b)).bar ≡ s.bar
over-bar true s a b p q = p
over-bar false s a b p q = q

bar-step : (bar : ℕ) (runs : List Run) (cells : ℕ) (state : State) (e : Score) → (both (record { bar = bar; runs = runs; cells = cells; state = state }) e).bar ≡ bar
bar-step bar runs cells (Outside sum start) e = refl
bar-step bar runs cells (Within run against) e =
    let s : Search = record { bar = bar; runs = runs; cells = cells; state = Within run against } in
    let run' = extended run cells (minus against e) e in
    over-bar (nat_le bar (minus against e)) s (record s { runs = runs ++ run' ∷ []; state = Outside 0 0 }) (record s { state = Within run' (minus against e) }) refl refl

abbrev pub SumsAfter : ℕ → List Score → ℕ → Search → Type 0
SumsAfter bar scores n s =
    (s.bar ≡ bar) × (s.cells ≡ n) × AllReach bar (gains_to scores) (losses_to scores) s.runs × SumsIn bar (gains_to scores) (losses_to scores) n s.state

sums-more : (bar : ℕ) (scores : List Score) (d : Score) (n : ℕ) (s : Search) → 0 < bar → n < length scores → SumsAfter bar scores n s → SumsAfter bar scores (n + 1) (both s (get_or scores n d))
sums-more bar scores d n s some inside h =
    let e = get_or scores n d in
    let G = gains_to scores in
    let L = losses_to scores in
    let gain : IsNext G n e.gain = sum_by_more (λ (score : Score). score.gain) scores n d inside in
    let loss : IsNext L n e.loss = sum_by_more (λ (score : Score). score.loss) scores n d inside in
    let P : ℕ → ℕ → Type 0 = λ b k. let t = both (record { bar = b; runs = s.runs; cells = k; state = s.state }) e in AllReach bar G L t.runs × SumsIn bar G L (n + 1) t.state in
    let step : P bar n = sums-step G L bar s.runs n s.state e some gain loss h.2 h.3 in
    let now : P s.bar s.cells = subst (λ b. P b s.cells) (sym h.0) (subst (λ k. P bar k) (sym h.1) step) in
    (bar-step s.bar s.runs s.cells s.state e ∙ h.0, cells-step s.bar s.runs s.cells s.state e e ∙ ap (λ k. k + 1) h.1, now.0, now.1)

sums-after : (bar : ℕ) (scores : List Score) (d : Score) (n : ℕ) → 0 < bar → n ≤ length scores → SumsAfter bar scores n (fold both (empty_search bar) (take n scores))
sums-after bar scores d zero some within = (refl, refl, tt, λ none. absurd (omega arith))
sums-after bar scores d (suc n) some within =
    let before = sums-after bar scores d n some (omega arith) in
    let more = sums-more bar scores d n (fold both (empty_search bar) (take n scores)) some (omega arith) before in
    let start = empty_search bar in
    let here = subst (SumsAfter bar scores (n + 1)) (sym (fold_more both start scores n d (omega arith))) more in
    subst (λ k. SumsAfter bar scores k (fold both start (take k scores))) (add-one n) here

sum-between : (f : Score → ℕ) (scores : List Score) (a b : ℕ) → a ≤ b → sum_by f (take a scores) + sum_by f (slice_range scores a b) ≡ sum_by f (take b scores)
sum-between f scores a b h =
    let split : sum_by f (drop a scores) ≡ sum_by f (slice_range scores a b) + sum_by f (drop b scores) = ap (sum_by f) (drop_split scores a b h) ∙ sum_by-append f (slice_range scores a b) (drop b scores) in
    omega (arith, sum_by-take-drop f scores a, sum_by-take-drop f scores b)

reaches-bar : (bar : ℕ) (scores : List Score) (run : Run) → Reaches bar (gains_to scores) (losses_to scores) run → ReachesBar bar scores run
reaches-bar bar scores run h =
    let between = sum-between (λ (score : Score). score.gain) scores run.start run.end h.0 in
    let losses = sum-between (λ (score : Score). score.loss) scores run.start run.end h.0 in
    let is = h.1 in
    omega arith

all-reach : (bar : ℕ) (scores : List Score) (runs : List Run) → AllReach bar (gains_to scores) (losses_to scores) runs → AllByRecursion (ReachesBar bar scores) runs
all-reach bar scores [] h = tt
all-reach bar scores (run ∷ runs) h = (reaches-bar bar scores run h.0, all-reach bar scores runs h.1)

found-reach : (bar : ℕ) (G L : ℕ → ℕ) (n b : ℕ) (runs : List Run) (cells : ℕ) (state : State) → AllReach bar G L runs → SumsIn bar G L n state → AllReach bar G L (found (record { bar = b; runs = runs; cells = cells; state = state }))
found-reach bar G L n b runs cells (Outside sum start) all h = all
found-reach bar G L n b runs cells (Within run against) all h = all-push bar G L runs run all h.0

pub runs-reach-bar : (bar : ℕ) (scores : List Score) → 0 < bar → AllByRecursion (ReachesBar bar scores) (runs_of bar scores)
unfolding runs_of
runs-reach-bar bar [] some = tt
runs-reach-bar bar (d ∷ rest) some =
    let scores = d ∷ rest in
    let n = length scores in
    let t = fold both (empty_search bar) scores in
    let after : SumsAfter bar scores n t = subst (λ xs. SumsAfter bar scores n (fold both (empty_search bar) xs)) (take_all n scores (omega arith)) (sums-after bar scores d n some (omega arith)) in
    all-reach bar scores (found t) (found-reach bar (gains_to scores) (losses_to scores) n t.bar t.runs t.cells t.state after.2 after.3)
