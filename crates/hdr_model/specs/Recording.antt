-- What recording makes of a histogram. (`record_n`, `saturating_record_n`, `clear`, `reset`.)
use Rattle.std.specs.Prelude.{ℕ, ◌+◌, ◌-◌, ◌^◌, if◌then◌else◌, nat_le, min, None, List, [], ◌∷◌, ◌++◌, length, replicate, slice_index, slice_set}
use Rattle.hdr_base.specs.Classes.{bin_of, reach_of, bins_to, Resolution}
use Rattle.hdr_model.specs.Plain.{Plain, resolution, reach}
use Rattle.hdr_model.specs.Marks.{earlier_mark, later_mark}

-- the histogram with bins up to the reach of x, and x itself as its `high`
unfoldable pub with_bins_to : Plain → ℕ → Plain
with_bins_to h x = record h { high = x; counts = h.counts ++ replicate (bins_to (resolution h) x - length h.counts) 0 }

-- the histogram with bins up to a value, if it has none for it
unfoldable pub with_bins_for : Plain → ℕ → Plain
with_bins_for h v = if nat_le v (reach h) then h else with_bins_to h (reach_of (resolution h) v)

-- n added to a bin's number and to the total, each up to its greatest, and the marks widened by the bin
unfoldable pub after_add_to_bin : ℕ → Plain → ℕ → ℕ → Plain
after_add_to_bin greatest h i n =
    record h {
      counts = slice_set h.counts i (min (slice_index h.counts i + n) greatest);
      total = min (h.total + n) (2 ^ 64 - 1);
      top_mark = later_mark h.top_mark i;
      lower_mark = earlier_mark h.lower_mark i;
    }

-- the histogram after a value was recorded n times
unfoldable pub after_record : ℕ → Plain → ℕ → ℕ → Plain
after_record greatest h v n = after_add_to_bin greatest (with_bins_for h v) (bin_of (resolution h) v) n

-- a value, and how many times it is recorded
pub record Times : Type 0 where
  pub value : ℕ
  pub times : ℕ

-- the histogram after each of these was recorded, one after the other
abbrev pub after_records : ℕ → Plain → List Times → Plain
after_records greatest h [] = h
after_records greatest h (t ∷ ts) = after_records greatest (after_record greatest h t.value t.times) ts

-- the samples of a list of values and how many times each is recorded
abbrev pub samples_of : List Times → List ℕ
samples_of [] = []
samples_of (t ∷ ts) = replicate t.times t.value ++ samples_of ts

-- the value that is recorded for v if the bins may not grow: v within the reach, and otherwise `high`
unfoldable pub clamp_to_bins : Plain → ℕ → ℕ
clamp_to_bins h v = if nat_le v (reach h) then v else h.high

-- the histogram with nothing counted, and its marks kept
unfoldable pub after_clear : Plain → Plain
after_clear h = record h { counts = replicate (length h.counts) 0; total = 0 }

-- the histogram with nothing counted and no marks
unfoldable pub after_reset : Plain → Plain
after_reset h = record h { counts = replicate (length h.counts) 0; total = 0; top_mark = None; lower_mark = None }

-- `high` once there is a bin for x: `new` if the bins had to grow
unfoldable pub high_with : Resolution → ℕ → ℕ → ℕ → ℕ
high_with g high x new = if nat_le x (reach_of g high) then high else new

-- the value that clamping records for v
unfoldable pub clamp : Resolution → ℕ → ℕ → ℕ
clamp g high v = if nat_le v (reach_of g high) then v else high
