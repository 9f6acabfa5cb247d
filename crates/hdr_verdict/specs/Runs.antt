-- Runs of cells: what speaks for them opens one, and as much that speaks against it closes it.
use Rattle.std.specs.Prelude.{ℕ, ◌+◌, ◌-◌, ◌^◌, ◌<◌, ◌≤◌, ◌==◌, ◌&&◌, nat_le, nat_lt, if◌then◌else◌, Bool, true, false, List, [], ◌∷◌, ◌++◌}
use Rattle.std.specs.List.{fold, sum_by, slice_range}
use Rattle.hdr_verdict.specs.declared.runs.Run.{Run}
use Rattle.hdr_verdict.specs.declared.score.Score.{Score}
use Rattle.hdr_verdict.specs.declared.runs.State.{State}
use Rattle.hdr_verdict.specs.declared.runs.State.TheVariants.{Outside, Within}
use Rattle.hdr_verdict.specs.declared.runs.RunSearch.{RunSearch}

-- a search for runs: its bar, the runs that are over, how many cells it has seen, and whether the last one is in a run
pub record Search : Type 0 where
  pub bar : ℕ
  pub runs : List Run
  pub cells : ℕ
  pub state : State

abbrev pub view_of_search : RunSearch → Search
view_of_search s = record { bar = s.bar; runs = s.runs.items; cells = s.cells; state = s.state }

-- a search that has seen no cells
abbrev pub empty_search : ℕ → Search
empty_search bar = record { bar = bar; runs = []; cells = 0; state = Outside 0 0 }

-- both parts of a score are below 2^127
abbrev pub Fits : Score → Type 0
Fits score = (score.gain < 2 ^ 127) × (score.loss < 2 ^ 127)

-- max(0, sum + score)
abbrev pub plus : ℕ → Score → ℕ
plus sum score = (sum + score.gain) - score.loss

-- max(0, sum - score)
abbrev pub minus : ℕ → Score → ℕ
minus sum score = (sum + score.loss) - score.gain

-- the state after a cell that is in no run: the sum is that of the scores since it left 0, and at the bar a run begins there
abbrev pub after_outside : ℕ → ℕ → (start sum : ℕ) → State
after_outside bar cell start sum = if nat_le bar sum then Within (record { start = start; end = cell + 1 }) 0 else Outside sum start

-- the run ends behind the last cell with a score above 0 at which nothing speaks against it
abbrev pub extended : Run → ℕ → (against : ℕ) → Score → Run
extended run cell against score = if (against == 0) && nat_lt score.loss score.gain then record run { end = cell + 1 } else run

-- the search after a cell within a run: the run is over once what speaks against it reaches the bar
abbrev pub after_within : Search → Run → (against : ℕ) → Search
after_within s run against =
    if nat_le s.bar against then record s { runs = s.runs ++ run ∷ []; state = Outside 0 0 } else record s { state = Within run against }

-- one more cell was seen
abbrev pub counted : Search → Search
counted s = record s { cells = s.cells + 1 }

-- the search after one more cell, which has a score to open a run and another to close it
abbrev pub after_cell : Search → Score → Score → Search
after_cell s opening closing = elim s.state [
  | Outside sum start ↦ record s { cells = s.cells + 1; state = after_outside s.bar s.cells (if sum == 0 then s.cells else start) (plus sum opening) }
  | Within run against ↦ counted (after_within s (extended run s.cells (minus against closing) closing) (minus against closing))
]

-- the runs that were found, the open one too
abbrev pub found : Search → List Run
found s = elim s.state [ Outside sum start ↦ s.runs | Within run against ↦ s.runs ++ run ∷ [] ]

-- the runs of cells with these scores
unfoldable pub runs_of : ℕ → List Score → List Run
runs_of bar scores = found (fold (λ s score. after_cell s score score) (empty_search bar) scores)

-- the last cell is in a run
abbrev pub is_within : State → Bool
is_within (Outside sum start) = false
is_within (Within run against) = true

-- runs from a cell to another, one after the other, each of at least one cell
abbrev pub AreInOrder : ℕ → ℕ → List Run → Type 0
AreInOrder from end [] = from ≤ end
AreInOrder from end (run ∷ runs) = (from ≤ run.start) × (run.start < run.end) × AreInOrder run.end end runs

-- the sums of the gains and of the losses of a run
abbrev pub gain_of : List Score → Run → ℕ
gain_of scores run = sum_by (λ score. score.gain) (slice_range scores run.start run.end)

abbrev pub loss_of : List Score → Run → ℕ
loss_of scores run = sum_by (λ score. score.loss) (slice_range scores run.start run.end)

-- the scores of a run sum to the bar or more
abbrev pub ReachesBar : ℕ → List Score → Run → Type 0
ReachesBar bar scores run = bar + loss_of scores run ≤ gain_of scores run
