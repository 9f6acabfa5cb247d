-- The five lists of picks. (`iter_all`, `iter_recorded`, `iter_linear`, `iter_log`, `iter_quantiles`.)
use Rattle.std.specs.Prelude.{ℕ, ◌+◌, ◌-◌, ◌*◌, ◌/◌, ◌%◌, ◌^◌, ◌==◌, max, List, [], ◌∷◌, map, filter, flat_map, count_by, slice_index, Some, None, Bool, nat_lt, nat_le, ◌&&◌, if◌then◌else◌}
use Rattle.std.specs.List.{range_with_len}
use Rattle.hdr_base.specs.Fractions.{Ratio}
use Rattle.hdr_iterators.specs.Seen.{Seen, capped, bins_in, below, running, lowest_in, top_in, bin_or_last}
use Rattle.hdr_iterators.specs.Picks.{Pick}

abbrev pub bin_pick : ℕ → Pick
bin_pick i = record { place = i; tick = None; level = None }

-- the bins from bin i on
abbrev pub bins_from : Seen → ℕ → List ℕ
bins_from h i = range_with_len i (bins_in h - i)

abbrev pub is_nonempty : Seen → ℕ → Bool
is_nonempty h i = nat_lt 0 (slice_index h.numbers i)

-- every bin
abbrev pub all_picks : Seen → List Pick
all_picks h = map bin_pick (bins_from h 0)

-- every nonempty bin
abbrev pub recorded_picks : Seen → List Pick
recorded_picks h = map bin_pick (filter (is_nonempty h) (bins_from h 0))

-- a level, at its bin or the last bin
abbrev pub level_pick : Seen → ℕ → Pick
level_pick h v = record { place = bin_or_last h v; tick = None; level = Some v }

-- level number j of a step: the last value of the step, or `u64::MAX` if that is above it
abbrev pub linear_level : ℕ → ℕ → ℕ
linear_level step j = capped ((j + 1) * step - 1)

-- how many levels of a step are below v
abbrev pub levels_below : ℕ → ℕ → ℕ
levels_below step v = v / step

-- the top of the class of the first level that is not below the last recorded class
abbrev pub linear_end : Seen → ℕ → ℕ
linear_end h step = top_in h (bin_or_last h (linear_level step (levels_below step (lowest_in h h.last))))

-- how many levels come: those below the last recorded class and one more; and all that are at most the end, where
-- `u64::MAX` comes once
abbrev pub linear_count : Seen → ℕ → ℕ
linear_count h step =
    max (levels_below step (lowest_in h h.last) + 1)
    (if linear_end h step == 2 ^ 64 - 1 then levels_below step (2 ^ 64 - 1) + 1 else levels_below step (linear_end h step + 1))

abbrev pub linear_picks : Seen → ℕ → List Pick
linear_picks h step = map (λ j. level_pick h (linear_level step j)) (range_with_len 0 (linear_count h step))

-- level number j of a power: start * base ^ j, or `u64::MAX` if that is above it, less 1
abbrev pub log_level : ℕ → ℕ → ℕ → ℕ
log_level start base j = capped (start * base ^ j) - 1

-- how many levels come: those below the last recorded class, and one more; a power past the 64th is past each number
abbrev pub log_count : Seen → ℕ → ℕ → ℕ
log_count h start base = count_by (λ j. nat_lt (log_level start base j) (lowest_in h h.last)) (range_with_len 0 64) + 1

abbrev pub log_picks : Seen → ℕ → ℕ → List Pick
log_picks h start base = map (λ j. level_pick h (log_level start base j)) (range_with_len 0 (log_count h start base))

-- tick number k, of t to each half of the distance to 1
abbrev pub tick_of : ℕ → ℕ → Ratio
tick_of t k =
    let whole : ℕ = t * 2 ^ (k / t + 1) in
    record { num = whole - 2 * t + k % t; den = whole }

-- tick number k is at most r of n
abbrev pub is_within : ℕ → ℕ → ℕ → ℕ → Bool
is_within t r n k = nat_le ((tick_of t k).num * n) (r * (tick_of t k).den)

-- how many ticks are at most r of n, for r below n: each such tick is in the first 64 halves
abbrev pub ticks_within : ℕ → ℕ → ℕ → ℕ
ticks_within t r n = count_by (is_within t r n) (range_with_len 0 (64 * t))

-- the ticks yielded before bin b: those at most the running count before it, and none if that is 0
abbrev pub ticks_before : Seen → ℕ → ℕ → ℕ
ticks_before h t b = if below h b == 0 then 0 else ticks_within t (capped (below h b)) h.total

abbrev pub tick_pick : ℕ → Ratio → Pick
tick_pick b q = record { place = b; tick = Some q; level = None }

-- all samples
abbrev pub all_of_them : Ratio
all_of_them = record { num = 1; den = 1 }

-- the ticks at bin b: those not yet yielded and at most the running count; if that is the total, the next one and then 1
abbrev pub ticks_at : Seen → ℕ → ℕ → List Pick
ticks_at h t b =
    if nat_lt (running h b) h.total
    then map (λ k. tick_pick b (tick_of t k)) (range_with_len (ticks_before h t b) (ticks_within t (running h b) h.total - ticks_before h t b))
    else tick_pick b (tick_of t (ticks_before h t b)) ∷ tick_pick b all_of_them ∷ []

-- a nonempty bin up to the first one where the running count is the total
abbrev pub has_tick : Seen → ℕ → Bool
has_tick h b = is_nonempty h b && nat_lt (capped (below h b)) h.total

-- the ticks of each of these
abbrev pub quantile_picks : Seen → ℕ → List Pick
quantile_picks h t = flat_map (ticks_at h t) (filter (has_tick h) (bins_from h 0))
