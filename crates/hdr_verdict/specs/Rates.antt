-- Rates: how many samples come in how much time, and how many usually come.
use Rattle.std.specs.Prelude.{ℕ, ◌+◌, ◌-◌, ◌*◌, ◌/◌, ◌^◌, ◌==◌, ◌&&◌, nat_le, nat_lt, if◌then◌else◌, Bool, max, min, List, length, map, drop, count_by, slice_index_or, Option, Some, None}
use Rattle.std.specs.List.{find, sum_by, slice_range, range_with_len, position_or_len}
use Rattle.std.specs.Option.{option_map_or}
use Rattle.hdr_verdict.specs.declared.cell.Cell.{Cell}
use Rattle.hdr_verdict.specs.declared.rate.Rate.{Rate}

-- the rate of a cell, whose time is at least 1 ms
abbrev pub rate_of_cell : Cell → Rate
rate_of_cell cell = record { samples = cell.samples; time = max (cell.end - cell.start) 1 }

-- several rates together: the sums of the samples and of the times, at most 2^64 - 1
abbrev pub together : List Rate → Rate
together rates = record { samples = min (sum_by (λ r. r.samples) rates) (2 ^ 64 - 1); time = min (sum_by (λ r. r.time) rates) (2 ^ 64 - 1) }

-- a rate is below another: a / b < c / d
abbrev pub is_slower : Rate → Rate → Bool
is_slower a b = nat_lt (a.samples * b.time) (b.samples * a.time)

-- the lesser of two rates, the first one if they are equal
abbrev pub slower : Rate → Rate → Rate
slower a b = if is_slower b a then b else a

-- how many samples num / den of a rate gives in a time, rounded down; the product is at most 2^128 - 1
unfoldable pub expected : Rate → (num den time : ℕ) → ℕ
expected rate num den time = min (num * (rate.samples * time)) (2 ^ 128 - 1) / (den * max rate.time 1)

-- a rate has a rank: at most this number of rates are below it, and more are not above it
abbrev pub has_rank : ℕ → List Rate → Rate → Bool
has_rank rank rates rate = nat_le (count_by (λ r. is_slower r rate) rates) rank && nat_lt rank (length rates - count_by (λ r. is_slower rate r) rates)

-- the first rate of a rank
unfoldable pub of_rank : ℕ → List Rate → Option Rate
of_rank rank rates = find (has_rank rank rates) rates

-- the last n rates, or all of them
abbrev pub last_of : ℕ → List Rate → List Rate
last_of n rates = drop (length rates - n) rates

-- the samples of the cell before the last n, or 0 if there is none
abbrev pub samples_before_last : ℕ → List Rate → ℕ
samples_before_last n past = if nat_lt n (length past) then (slice_index_or past (length past - 1 - n) (record { samples = 0; time = 0 })).samples else 0

-- how many of the last cells count: 16, or more until they have 100 samples, but at most 64
unfoldable pub window : List Rate → ℕ
window past = 16 + position_or_len (λ n. nat_le 100 (together (last_of n past)).samples) (range_with_len 16 48)

-- eight equal parts of the last cells, each of them together
unfoldable pub parts_of : List Rate → List Rate
parts_of cells =
    let size = length cells / 8 in
    map (λ part. together (slice_range (last_of (8 * size) cells) (part * size) (part * size + size))) (range_with_len 0 8)

-- the rate over some cells, or the lower quartile of its eight parts if that is less
abbrev pub usual_of_cells : List Rate → Rate
usual_of_cells cells = option_map_or (slower (together cells)) (of_rank 2 (parts_of cells)) (together cells)

-- the usual rate after cells of these rates: none before eight cells, and none if that is 0
unfoldable pub usual_rate : List Rate → Option Rate
usual_rate past =
    let usual = usual_of_cells (last_of (window past) past) in
    if nat_lt (length past) 8 then None else (if usual.samples == 0 then None else Some usual)
