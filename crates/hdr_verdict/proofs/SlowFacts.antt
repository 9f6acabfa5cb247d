-- The search for slow times.
use Rattle.std.proofs.Common.{◌≡◌, ℕ, ◌<◌, Bool, true, false, cond, not, if◌then◌else◌, filter, append-nil, List, [], ◌∷◌, ◌++◌, length, map, get_or, sym, ap, ◌∙◌, arith}
use Rattle.std.specs.List.{fold}
use Rattle.std.proofs.lemmas.List.{get_or-map, length-map}
use Rattle.std.proofs.lemmas.List.Sums.{fold_push}
use Rattle.std.proofs.lemmas.List.Elements.{filter-append}
use Rattle.hdr_verdict.specs.declared.runs.Run.{Run}
use Rattle.hdr_verdict.specs.declared.score.Score.{Score}
use Rattle.hdr_verdict.specs.declared.slow.Rise.{Rise}
use Rattle.hdr_verdict.specs.declared.slow.Test.{Test}
use Rattle.hdr_verdict.specs.declared.cell.Cell.{Cell}
use Rattle.hdr_verdict.specs.Slow.{Slow, after_run, after_test, bar_of, high_cells, inside, runs_in, scores_of, with_value, is_rise, joined, slow_of_run, value_in, with_slow}
use Rattle.hdr_verdict.specs.Runs.{runs_of}
use Rattle.hdr_verdict.specs.Tails.{count_above}

-- cells that count as many samples as they have are as many
pub as-many-cells : (cells : List Cell) (all : List (List ℕ)) → map (λ (cell : Cell). cell.samples) cells ≡ map length all → length cells ≡ length all
as-many-cells cells all same = sym (length-map cells (λ (cell : Cell). cell.samples)) ∙ ap length same ∙ length-map all length

-- the samples of a cell, and how many are above a value
pub samples-at : (cells : List Cell) (all : List (List ℕ)) (i : ℕ) (d : Cell) → map (λ (cell : Cell). cell.samples) cells ≡ map length all → i < length cells → (get_or cells i d).samples ≡ length (get_or all i [])
samples-at cells all i d same inside =
    let f : Cell → ℕ = λ cell. cell.samples in
    sym (get_or-map f cells i d 0 inside) ∙ ap (λ l. get_or l i 0) same ∙ get_or-map length all i [] 0 (omega (arith, inside, as-many-cells cells all same))

pub above-at : (value : ℕ) (above : List ℕ) (all : List (List ℕ)) (i : ℕ) → above ≡ map (count_above value) all → i < length all → get_or above i 0 ≡ count_above value (get_or all i [])
above-at value above all i are inside = ap (λ l. get_or l i 0) are ∙ get_or-map (count_above value) all i [] 0 inside

filter-yes : {X : Type 0} (p : X → Bool) (xs : List X) (x : X) → p x ≡ true → filter p (xs ++ x ∷ []) ≡ filter p xs ++ x ∷ []
filter-yes p xs x is = filter-append p xs (x ∷ []) ∙ ap (λ b. filter p xs ++ cond b (x ∷ []) []) is

filter-drops : {X : Type 0} (p : X → Bool) (xs : List X) (x : X) → p x ≡ false → filter p (xs ++ x ∷ []) ≡ filter p xs
filter-drops p xs x is = filter-append p xs (x ∷ []) ∙ ap (λ b. filter p xs ++ cond b (x ∷ []) []) is ∙ append-nil (filter p xs)

-- one more earlier time joins, or is kept
pub join-step : (same : Slow → Bool) (seen kept after : List Slow) (e first slow new : Slow) (b : Bool) → b ≡ same e → new ≡ (if b then joined slow e else slow) → after ≡ (if b then kept else kept ++ e ∷ [])
    → kept ≡ filter (λ f. not (same f)) seen → slow ≡ fold joined first (filter same seen)
    → (after ≡ filter (λ f. not (same f)) (seen ++ e ∷ [])) × (new ≡ fold joined first (filter same (seen ++ e ∷ [])))
join-step same seen kept after e first slow new true is new-is after-is kept-is slow-is = (
  after-is ∙ kept-is ∙ sym (filter-drops (λ f. not (same f)) seen e (ap not (sym is))),
  new-is ∙ ap (λ s. joined s e) slow-is ∙ sym (fold_push joined first (filter same seen) e) ∙ ap (fold joined first) (sym (filter-yes same seen e (sym is))),
)
join-step same seen kept after e first slow new false is new-is after-is kept-is slow-is = (
  after-is ∙ ap (λ l. l ++ e ∷ []) kept-is ∙ sym (filter-yes (λ f. not (same f)) seen e (ap not (sym is))),
  new-is ∙ slow-is ∙ ap (fold joined first) (sym (filter-drops same seen e (sym is))),
)

-- a run with a value that is high enough is a slow time
pub run-rises : (test : Test) (cells : List (List ℕ)) (explained : List Bool) (scores : List Score) (found : List Slow) (run : Run) (value : ℕ) → value ≡ value_in test cells explained run
    → is_rise test (high_cells scores run) value ≡ true → with_slow test cells value (slow_of_run test scores value run) found ≡ after_run test cells explained scores found run
run-rises test cells explained scores found run value is rises =
    let f : ℕ → List Slow = λ v. if is_rise test (high_cells scores run) v then with_slow test cells v (slow_of_run test scores v run) found else found in
    sym (ap {B = List Slow} (λ (b : Bool). if b then with_slow test cells value (slow_of_run test scores value run) found else found) rises) ∙ ap f is

pub slow-parts : (run : Run) (rises more : List Rise) (excess other cells count : ℕ) → rises ≡ more → excess ≡ other → cells ≡ count
    → (let a : Slow = record { run = run; rises = rises; excess = excess; cells = cells } in a) ≡ (let b : Slow = record { run = run; rises = more; excess = other; cells = count } in b)
slow-parts run rises more excess other cells count a b c =
    ap (λ r. let x : Slow = record { run = run; rises = r; excess = excess; cells = cells } in x) a
    ∙ ap (λ e. let x : Slow = record { run = run; rises = more; excess = e; cells = cells } in x) b
    ∙ ap (λ n. let x : Slow = record { run = run; rises = more; excess = other; cells = n } in x) c

abbrev pub found_by : Test → List (List ℕ) → List Slow → List Bool → List Score → List Run → List Slow
found_by test cells found explained scores runs =
    let all = fold (after_run test cells explained scores) found runs in
    map (with_value test cells (runs_in all)) all

-- the times after a test are those of its scores and their runs
pub test-is : (bar sum : ℕ) (cells : List (List ℕ)) (found : List Slow) (test : Test) (explained : List Bool) (scores : List Score) (runs : List Run)
    → explained ≡ inside (runs_in found) (length cells) → scores ≡ scores_of test explained cells → sum ≡ bar_of bar test.tail → runs ≡ runs_of sum scores
    → found_by test cells found explained scores runs ≡ after_test bar cells found test
unfolding after_test
test-is bar sum cells found test explained scores runs first second third fourth =
    ap (found_by test cells found explained scores) (fourth ∙ ap (λ k. runs_of k scores) third)
    ∙ ap (λ s. found_by test cells found explained s (runs_of (bar_of bar test.tail) s)) second
    ∙ ap (λ e. found_by test cells found e (scores_of test e cells) (runs_of (bar_of bar test.tail) (scores_of test e cells))) first
