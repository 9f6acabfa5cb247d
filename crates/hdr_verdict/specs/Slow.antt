-- Times at which a tag was slow.
use Rattle.std.specs.Prelude.{ℕ, ◌+◌, ◌-◌, ◌*◌, ◌/◌, ◌^◌, ◌==◌, ◌&&◌, ◌||◌, not, nat_le, nat_lt, if◌then◌else◌, Bool, true, false, max, min, List, [], ◌∷◌, ◌++◌, length, map, filter, count_by, slice_index_or, unwrap_or}
use Rattle.std.specs.List.{fold, flat_map, list_any, range_with_len, slice_range}
use Rattle.hdr_verdict.specs.Tails.{tail_value, count_above}
use Rattle.hdr_verdict.specs.Runs.{runs_of, gain_of, loss_of}
use Rattle.hdr_verdict.specs.declared.tail.Tail.{Tail}
use Rattle.hdr_verdict.specs.declared.runs.Run.{Run}
use Rattle.hdr_verdict.specs.declared.score.Score.{Score}
use Rattle.hdr_verdict.specs.declared.slow.Rise.{Rise}
use Rattle.hdr_verdict.specs.declared.slow.SlowTime.{SlowTime}
use Rattle.hdr_verdict.specs.declared.slow.Test.{Test}

-- a time at which a tag was slow: its cells, the values of tails, how many samples too many are above the thresholds, and
-- how many cells have a score above 0
pub record Slow : Type 0 where
  pub run : Run
  pub rises : List Rise
  pub excess : ℕ
  pub cells : ℕ

abbrev pub view_of_slow : SlowTime → Slow
view_of_slow s = record { run = s.run; rises = s.rises.items; excess = s.excess; cells = s.cells }

-- a cell is in a run
abbrev pub is_in : Run → ℕ → Bool
is_in run i = nat_le run.start i && nat_lt i run.end

-- how many cells a run has
abbrev pub cells_in : Run → ℕ
cells_in run = run.end - run.start

-- for each of n cells whether it is in one of these runs
abbrev pub inside : List Run → ℕ → List Bool
inside runs n = map (λ i. list_any (λ run. is_in run i) runs) (range_with_len 0 n)

abbrev pub views_of : List SlowTime → List Slow
views_of found = map view_of_slow found

abbrev pub runs_in : List Slow → List Run
runs_in found = map (λ slow. slow.run) found

-- the score of a cell: a part of its samples may be above the threshold, and a cell that earlier times explain counts for nothing
abbrev pub score_of : Test → (is_explained : Bool) → List ℕ → Score
score_of test true cell = record { gain = 0; loss = 0 }
score_of test false cell = record { gain = test.tail.den * count_above test.threshold cell; loss = test.tail.num * length cell }

-- the scores of cells
abbrev pub scores_of : Test → List Bool → List (List ℕ) → List Score
scores_of test explained cells =
    map (λ i. score_of test (slice_index_or explained i false) (slice_index_or cells i [])) (range_with_len 0 (length cells))

-- the samples of a cell, unless it is left out
abbrev pub kept : List (List ℕ) → List Bool → ℕ → List ℕ
kept cells left i = if slice_index_or left i false then [] else slice_index_or cells i []

-- the samples of the cells of a run but those that are left out
abbrev pub samples_in : List (List ℕ) → List Bool → Run → List ℕ
samples_in cells left run = flat_map (kept cells left) (range_with_len run.start (cells_in run))

-- the value of a test's tail there
abbrev pub value_in : Test → List (List ℕ) → List Bool → Run → ℕ
value_in test cells left run = tail_value test.tail.num test.tail.den (samples_in cells left run)

-- how many cells of a run have a score above 0
abbrev pub high_cells : List Score → Run → ℕ
high_cells scores run = count_by (λ score. nat_lt score.loss score.gain) (slice_range scores run.start run.end)

-- how many samples too many a run has, as far as 128 bits hold the sums
abbrev pub excess_of : List Score → Run → (den : ℕ) → ℕ
excess_of scores run den = (min (gain_of scores run) (2 ^ 128 - 1) - min (loss_of scores run) (2 ^ 128 - 1)) / den

-- a value is as many times its usual one as it has to be, if this number of cells have scores above 0
abbrev pub is_enough : (cells usual value : ℕ) → Bool
is_enough cells usual value =
    if cells == 1 then nat_le (4 * usual) value
    else (if nat_lt cells 4 then nat_le (3 * usual) value else (if nat_lt cells 8 then nat_le (2 * usual) value else nat_le (3 * usual) (2 * value)))

-- a value is too high for chance; at a level each is
abbrev pub is_rise : Test → (cells value : ℕ) → Bool
is_rise test cells value = test.is_level || is_enough cells (unwrap_or test.usual 0) value

abbrev pub rise_of : Test → ℕ → Rise
rise_of test value = record { tail = test.tail; usual = test.usual; value = value }

-- a time has the value of a tail
abbrev pub has_tail : List Rise → Tail → Bool
has_tail rises tail = list_any (λ rise. (rise.tail.num == tail.num) && (rise.tail.den == tail.den)) rises

-- two runs have a cell in common, or one begins where the other ends
abbrev pub touches : Run → Run → Bool
touches run other = nat_le run.start other.end && nat_le other.start run.end

-- an earlier run is of the same state as a run with this value: what is below four times a value looks like it
abbrev pub is_same : Test → List (List ℕ) → (value : ℕ) → Run → Run → Bool
is_same test cells value run earlier = touches earlier run && nat_lt (value_in test cells [] earlier) (4 * value)

-- the run from the earlier start of two to the later end
abbrev pub joined_run : Run → Run → Run
joined_run run other = record { start = min run.start other.start; end = max run.end other.end }

-- a time with an earlier one that it joins
abbrev pub joined : Slow → Slow → Slow
joined slow earlier = record {
  run = joined_run slow.run earlier.run;
  rises = earlier.rises ++ filter (λ rise. not (has_tail earlier.rises rise.tail)) slow.rises;
  excess = min (slow.excess + earlier.excess) (2 ^ 128 - 1);
  cells = min (slow.cells + earlier.cells) (2 ^ 64 - 1);
}

-- the times that were found, with one more, which those of the same state join
abbrev pub with_slow : Test → List (List ℕ) → (value : ℕ) → Slow → List Slow → List Slow
with_slow test cells value slow found =
    let same : Slow → Bool = λ earlier. is_same test cells value slow.run earlier.run in
    filter (λ earlier. not (same earlier)) found ++ fold joined slow (filter same found) ∷ []

-- the time of a run of cells with these scores
abbrev pub slow_of_run : Test → List Score → (value : ℕ) → Run → Slow
slow_of_run test scores value run = record {
  run = run;
  rises = rise_of test value ∷ [];
  excess = excess_of scores run test.tail.den;
  cells = high_cells scores run;
}

-- the times that were found, after a run of cells with these scores
abbrev pub after_run : Test → List (List ℕ) → List Bool → List Score → List Slow → Run → List Slow
after_run test cells explained scores found run =
    let value = value_in test cells explained run in
    if is_rise test (high_cells scores run) value then with_slow test cells value (slow_of_run test scores value run) found else found

-- the runs that are shorter than a run
abbrev pub shorter_than : Run → List Run → List Run
shorter_than run runs = filter (λ other. nat_lt (cells_in other) (cells_in run)) runs

-- for each of n cells whether it is in one of these runs that is shorter than a run
abbrev pub in_shorter : List Run → Run → ℕ → List Bool
in_shorter runs run n = inside (shorter_than run runs) n

-- a run has a cell that is not left out
abbrev pub has_kept : List Bool → Run → Bool
has_kept left run = list_any (λ i. not (slice_index_or left i false)) (range_with_len run.start (cells_in run))

-- a time with the value of a test's tail, unless it has one or each of its cells is in a shorter time
abbrev pub with_value : Test → List (List ℕ) → List Run → Slow → Slow
with_value test cells runs slow =
    let left = in_shorter runs slow.run (length cells) in
    if has_tail slow.rises test.tail || not (has_kept left slow.run) then slow
    else record slow { rises = slow.rises ++ rise_of test (value_in test cells left slow.run) ∷ [] }

-- the sum of scores that opens a run, and closes it: that of `bar` samples that are all above the threshold
abbrev pub bar_of : ℕ → Tail → ℕ
bar_of bar tail = bar * (tail.den - tail.num)

-- the times that were found after one more test
unfoldable pub after_test : ℕ → List (List ℕ) → List Slow → Test → List Slow
after_test bar cells found test =
    let explained = inside (runs_in found) (length cells) in
    let scores = scores_of test explained cells in
    let all = fold (after_run test cells explained scores) found (runs_of (bar_of bar test.tail) scores) in
    map (with_value test cells (runs_in all)) all

-- the times at which a tag was slow, by tests of its cells, one after the other
unfoldable pub slow_of : ℕ → List (List ℕ) → List Test → List Slow
slow_of bar cells tests = fold (after_test bar cells) [] tests
