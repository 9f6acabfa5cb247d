-- Times at which samples of a tag are missing: runs of cells with fewer samples than half the usual rate gives.
use Rattle.std.specs.Prelude.{ℕ, ◌+◌, ◌-◌, ◌*◌, ◌/◌, ◌^◌, ◌==◌, ◌&&◌, ◌||◌, not, nat_le, nat_lt, if◌then◌else◌, Bool, true, false, ◌<◌, ◌≤◌, max, min, List, [], ◌∷◌, ◌++◌, length, map, slice_index, slice_index_or, unwrap_or, is_some, Option, Some, None}
use Rattle.std.specs.List.{fold, filter_map, sum_by, slice_range, range_with_len, position_or_len, suffix_len}
use Rattle.std.specs.Option.{option_and_then}
use Rattle.std.specs.Int.{abs_diff}
use Rattle.hdr_model.specs.Quantiles.{sorted}
use Rattle.hdr_verdict.specs.Rates.{expected, rate_of_cell, together, usual_rate}
use Rattle.hdr_verdict.specs.Runs.{Search, after_cell, empty_search, found, is_within}
use Rattle.hdr_verdict.specs.declared.cell.Cell.{Cell}
use Rattle.hdr_verdict.specs.declared.rate.Rate.{Rate}
use Rattle.hdr_verdict.specs.declared.runs.Run.{Run}
use Rattle.hdr_verdict.specs.declared.score.Score.{Score}
use Rattle.hdr_verdict.specs.declared.missing.MissingTime.{MissingTime}

-- how much the number of samples changes from a cell to the next one, if that were as long: at most 2^64 - 1
abbrev pub swing : Rate → Rate → ℕ
swing one next = min (abs_diff (one.samples * next.time) (next.samples * one.time) / max one.time 1) (2 ^ 64 - 1)

-- no rate
abbrev pub no_rate : Rate
no_rate = record { samples = 0; time = 0 }

-- the change before a cell
abbrev pub swing_before : List Rate → ℕ → ℕ
swing_before rates i = swing (slice_index_or rates (i - 1) no_rate) (slice_index_or rates i no_rate)

-- the changes between cells
abbrev pub swings : List Rate → List ℕ
swings rates = map (swing_before rates) (range_with_len 1 (length rates - 1))

-- the median of these, or 0 of fewer than two cells
unfoldable pub usual_swing : List Rate → ℕ
usual_swing rates = slice_index (sorted (swings rates)) (length (swings rates) / 2)

-- a cell's score: the samples that num / den of the usual rate gives, less those that there are
abbrev pub shortage : (num den : ℕ) → Option Rate → Rate → Score
shortage num den None rate = record { gain = 0; loss = 0 }
shortage num den (Some usual) rate = record { gain = expected usual num den rate.time; loss = rate.samples }

-- a search for runs of cells with few samples, the cells that say what is usual, and the usual rate before each cell
pub record Rates : Type 0 where
  pub search : Search
  pub past : List Rate
  pub usual : List (Option Rate)

-- the search after one more cell: fewer samples than half the usual rate open a run, and it ends where they are back to three
-- quarters. A cell says what is usual if it is in no run and has no fewer samples than half
abbrev pub after_rate : Rates → Rate → Rates
after_rate s rate =
    let usual = usual_rate s.past in
    let score = shortage 1 2 usual rate in
    let search = after_cell s.search score (shortage 3 4 usual rate) in
    record {
      search = search;
      past = if is_within search.state || nat_lt score.loss score.gain then s.past else s.past ++ rate ∷ [];
      usual = s.usual ++ usual ∷ [];
    }

abbrev pub empty_rates : ℕ → Rates
empty_rates bar = record { search = empty_search bar; past = []; usual = [] }

-- a run of cells among n
abbrev pub IsWithin : ℕ → Run → Type 0
IsWithin n run = (run.start < run.end) × (run.end ≤ n)

-- a time in which samples are missing is of cells among n
abbrev pub IsTimeWithin : ℕ → MissingTime → Type 0
IsTimeWithin n time = IsWithin n time.run × (time.from < n)

abbrev pub cells_of : List Rate → Run → List Rate
cells_of rates run = slice_range rates run.start run.end

-- a cell has no samples
abbrev pub is_empty : Rate → Bool
is_empty rate = rate.samples == 0

-- the time of the cells without samples, at most 2^64 - 1
abbrev pub empty_time : List Rate → ℕ
empty_time rates = min (sum_by (λ r. if is_empty r then r.time else 0) rates) (2 ^ 64 - 1)

-- a run of cells is a gap: more than half of its time is without samples, or it has below 3 cells and one is without
abbrev pub is_gap : List Rate → Bool
is_gap rates = nat_lt (together rates).time (2 * empty_time rates) || (nat_lt (length rates) 3 && nat_lt 0 (empty_time rates))

-- the first cell without samples, and the end of the last one
abbrev pub first_empty : List Rate → ℕ
first_empty rates = position_or_len is_empty rates

abbrev pub end_of_empty : List Rate → ℕ
end_of_empty rates = length rates - suffix_len (λ r. not (is_empty r)) rates

-- a rate is so low over some cells that samples are missing: at most half the usual one over 8 cells, and a fifth over 3
abbrev pub is_low : (cells : ℕ) → Rate → Rate → Bool
is_low cells rate usual = not (nat_lt cells 3) && nat_le ((if nat_lt cells 8 then 5 else 2) * (rate.samples * usual.time)) (usual.samples * rate.time)

-- the cells of a gap in a run, from the first without samples to the last
abbrev pub gap_in : List Rate → Run → Option Run
gap_in rates run =
    if is_gap (cells_of rates run)
    then Some (record { start = run.start + first_empty (cells_of rates run); end = run.start + end_of_empty (cells_of rates run) })
    else None

-- what is missing in some cells of the run that begins at the cell `from`, if the rate is low
abbrev pub time_in : List Rate → (is_gap : Bool) → (from : ℕ) → Run → (usual : Rate) → Option MissingTime
time_in rates is_gap from run usual =
    let rate = together (cells_of rates run) in
    if is_gap || is_low (run.end - run.start) rate usual
    then Some (record { is_gap = is_gap; run = run; from = from; rate = rate; usual = usual })
    else None

-- what is missing in a run of cells, by the usual rate before its first cell
unfoldable pub missing_in : List Rate → List (Option Rate) → Run → Option MissingTime
missing_in rates usual run =
    let gap = gap_in rates run in
    let cells = unwrap_or gap run in
    option_and_then (time_in rates (is_some gap) run.start cells) (slice_index_or usual cells.start None)

-- the search after all cells
unfoldable pub search_of : ℕ → List Rate → Rates
search_of bar rates = fold after_rate (empty_rates (bar + 3 * usual_swing rates)) rates

-- the times at which samples of a tag with these cells are missing
unfoldable pub missing_of : ℕ → List Cell → List MissingTime
missing_of bar cells =
    let rates = map rate_of_cell cells in
    let search = search_of bar rates in
    filter_map (missing_in rates search.usual) (found search.search)
