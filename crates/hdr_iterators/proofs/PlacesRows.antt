-- The lists of picks at examples: values 0 to 2047 in classes of their own.
use Rattle.std.proofs.Common.{◌≡◌, ℕ, List, [], ◌∷◌, ◌++◌, replicate, map, refl}
use Rattle.hdr_base.specs.Fractions.{Ratio}
use Rattle.hdr_base.specs.Items.{Item}
use Rattle.hdr_base.specs.Classes.{Resolution, least_from, bucket, width_of, lowest_of, top_of, bin_of, value_of}
use Rattle.hdr_iterators.specs.Seen.{Seen}
use Rattle.hdr_iterators.specs.Picks.{items_of}
use Rattle.hdr_iterators.specs.Places.{all_picks, recorded_picks, linear_picks, log_picks, quantile_picks, tick_pick, bin_pick, all_of_them}

abbrev units : Resolution
units = record { unit = 0; digits = 11 }

abbrev ratio : ℕ → ℕ → Ratio
ratio n d = record { num = n; den = d }

-- 1, 2, 3, 4 at one tick to each half
abbrev four : Seen
four = record { resolution = units; numbers = 0 ∷ 1 ∷ 1 ∷ 1 ∷ 1 ∷ 0 ∷ []; total = 4; last = 4 }

row_quantiles : quantile_picks four 1 ≡ tick_pick 1 (ratio 0 2) ∷ tick_pick 2 (ratio 2 4) ∷ tick_pick 3 (ratio 6 8) ∷ tick_pick 4 (ratio 14 16) ∷ tick_pick 4 all_of_them ∷ []
row_quantiles = refl

row_since : map (λ (i : Item). i.since) (items_of four (quantile_picks four 1)) ≡ 1 ∷ 1 ∷ 1 ∷ 1 ∷ 0 ∷ []
row_since = refl

-- 255 counted of 400: no running count is the total
abbrev part : Seen
part = record { resolution = units; numbers = replicate 100 0 ++ (255 ∷ replicate 27 0); total = 400; last = 100 }

row_part : quantile_picks part 1 ≡ tick_pick 100 (ratio 0 2) ∷ tick_pick 100 (ratio 2 4) ∷ []
row_part = refl

row_part_since : map (λ (i : Item). i.since) (items_of part (quantile_picks part 1)) ≡ 255 ∷ 0 ∷ []
row_part_since = refl

-- nothing recorded
abbrev none : Seen
none = record { resolution = units; numbers = replicate 32 0; total = 0; last = 0 }

row_none_all : map (λ (i : Item). i.count) (items_of none (all_picks none)) ≡ replicate 32 0
row_none_all = refl

row_none_recorded : recorded_picks none ≡ []
row_none_recorded = refl

row_none_quantiles : quantile_picks none 5 ≡ []
row_none_quantiles = refl

abbrev levels_and_counts : List Item → List (ℕ × ℕ)
levels_and_counts is = map {B = ℕ × ℕ} (λ (i : Item). (i.value, i.since)) is

row_none_linear : levels_and_counts (items_of none (linear_picks none 1)) ≡ (0, 0) ∷ []
unfolding least_from bucket width_of lowest_of top_of bin_of value_of
row_none_linear = refl

row_none_log : levels_and_counts (items_of none (log_picks none 1 2)) ≡ (0, 0) ∷ []
unfolding least_from bucket width_of lowest_of top_of bin_of value_of
row_none_log = refl

-- 100, 500, 800, 850
abbrev spread : Seen
spread = record { resolution = units; numbers = replicate 100 0 ++ (1 ∷ replicate 399 0) ++ (1 ∷ replicate 299 0) ++ (1 ∷ replicate 49 0) ++ (1 ∷ replicate 173 0); total = 4; last = 850 }

row_recorded : recorded_picks spread ≡ bin_pick 100 ∷ bin_pick 500 ∷ bin_pick 800 ∷ bin_pick 850 ∷ []
row_recorded = refl

row_linear : levels_and_counts (items_of spread (linear_picks spread 100)) ≡ (99, 0) ∷ (199, 1) ∷ (299, 0) ∷ (399, 0) ∷ (499, 0) ∷ (599, 1) ∷ (699, 0) ∷ (799, 0) ∷ (899, 2) ∷ []
unfolding least_from bucket width_of lowest_of top_of bin_of value_of
row_linear = refl

row_log : levels_and_counts (items_of spread (log_picks spread 1 10)) ≡ (0, 0) ∷ (9, 0) ∷ (99, 0) ∷ (999, 4) ∷ []
unfolding least_from bucket width_of lowest_of top_of bin_of value_of
row_log = refl
