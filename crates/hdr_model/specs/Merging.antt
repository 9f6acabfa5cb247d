-- The histogram after another was added to it. The source may have another counter type: its numbers are added in full.
-- (`add`; the code has two loops over bins.)
use Rattle.std.specs.Prelude.{◌≡◌, ◌==◌, ◌&&◌, ℕ, zero, suc, ◌+◌, ◌-◌, ◌^◌, ◌≤◌, slice_index, Bool, if◌then◌else◌, nat_le, min, Option, Some, None, List, [], ◌∷◌, ◌++◌, length, sum, max}
use Rattle.hdr_base.specs.Classes.{Resolution, value_of, top_of}
use Rattle.hdr_counts.specs.Blocks.{capped_sums}
use Rattle.hdr_model.specs.Plain.{Plain, IsPlain, resolution, reach, max_of}
use Rattle.hdr_model.specs.Recording.{with_bins_to, Times, after_records, samples_of, with_bins_for}
use Rattle.hdr_model.specs.Marks.{earlier_of, later_of}
use Rattle.hdr_model.specs.Correction.{each_times, missing}

-- the nonempty classes of numbers that start at class i: the lowest value of each, as many times as its number
abbrev pub classes_from : Resolution → ℕ → List ℕ → List Times
classes_from g i [] = []
classes_from g i (zero ∷ ns) = classes_from g (suc i) ns
classes_from g i (suc n ∷ ns) = record { value = value_of g i; times = suc n } ∷ classes_from g (suc i) ns

-- the lowest value of the top mark's class, no times
abbrev pub top_class : Resolution → Option ℕ → List Times
top_class g None = []
top_class g (Some i) = record { value = value_of g i; times = 0 } ∷ []

-- two histograms whose bins are the same classes
abbrev pub same_bins : Plain → Plain → Bool
same_bins h s = ((resolution h).unit == (resolution s).unit) && (((resolution h).digits == (resolution s).digits) && (length h.counts == length s.counts))

-- a source of the same bins added: an empty target takes its total and marks
unfoldable pub after_add_same_bins : ℕ → Plain → Plain → Plain
after_add_same_bins greatest h s = record h {
  counts = capped_sums greatest h.counts s.counts;
  total = if h.total == 0 then s.total else min (h.total + min (sum s.counts) (2 ^ 64 - 1)) (2 ^ 64 - 1);
  top_mark = if h.total == 0 then s.top_mark else later_of h.top_mark s.top_mark;
  lower_mark = if h.total == 0 then s.lower_mark else earlier_of h.lower_mark s.lower_mark;
}

-- a source added to a histogram whose bins reach its greatest value
unfoldable pub after_add_within : ℕ → Plain → Plain → Plain
after_add_within greatest h s =
    if same_bins h s then after_add_same_bins greatest h s
    else after_records greatest h (classes_from (resolution s) 0 s.counts ++ top_class (resolution s) s.top_mark)

-- the histogram with bins up to a value, which is its `high` if they had to grow
unfoldable pub with_room : Plain → ℕ → Plain
with_room h x = if nat_le x (reach h) then h else with_bins_to h x

-- the histogram after a source was added
unfoldable pub after_add : ℕ → Plain → Plain → Plain
after_add greatest h s = if s.total == 0 then h else after_add_within greatest (with_room h (max_of s)) s

-- what is true of every two histograms, of which the second may count in another type, up to `most`
abbrev pub OfEachTwo : (ℕ → Plain → Plain → Type 0) → Type 0
OfEachTwo P = (greatest most : ℕ) (h s : Plain) → 1 ≤ greatest → IsPlain greatest h → IsPlain most s → P greatest h s

-- what is true of every two histograms with one counter type and one resolution
abbrev pub OfEachAlike : (ℕ → Plain → Plain → Type 0) → Type 0
OfEachAlike P = (greatest : ℕ) (h s : Plain) → 1 ≤ greatest → IsPlain greatest h → IsPlain greatest s → resolution h ≡ resolution s → P greatest h s

-- two histograms have the same number in each bin
abbrev pub HaveSameNumbers : Plain → Plain → Type 0
HaveSameNumbers h s = (i : ℕ) → slice_index h.counts i ≡ slice_index s.counts i

-- no counter saturates if two histograms are added
abbrev pub SumFits : ℕ → Plain → Plain → Type 0
SumFits greatest h s = (i : ℕ) → slice_index h.counts i + slice_index s.counts i ≤ greatest

-- the lowest values of a histogram's classes, each as many times as its number
abbrev pub lowest_values : Plain → List ℕ
lowest_values h = samples_of (classes_from (resolution h) 0 h.counts)

-- the nonempty classes of numbers that start at class k, each at its top, and the missing values of that (`add_correct`)
abbrev pub corrections_from : Resolution → ℕ → ℕ → List ℕ → List Times
corrections_from g i k [] = []
corrections_from g i k (zero ∷ ns) = corrections_from g i (suc k) ns
corrections_from g i k (suc n ∷ ns) = each_times (suc n) (top_of g (value_of g k) ∷ missing (top_of g (value_of g k)) i) ++ corrections_from g i (suc k) ns

-- the top of the last nonempty class of numbers that start at class k, 0 for none
abbrev pub last_top : Resolution → ℕ → List ℕ → ℕ
last_top g k [] = 0
last_top g k (zero ∷ ns) = last_top g (suc k) ns
last_top g k (suc n ∷ ns) = max (top_of g (value_of g k)) (last_top g (suc k) ns)

-- the top of a histogram's last nonempty class
unfoldable pub highest_top : Plain → ℕ
highest_top h = last_top (resolution h) 0 h.counts

-- the histogram with bins up to the source's last nonempty class, after each nonempty class of the source was corrected
unfoldable pub after_add_correct : ℕ → Plain → Plain → ℕ → Plain
after_add_correct greatest h s i = after_records greatest (with_bins_for h (highest_top s)) (corrections_from (resolution s) i 0 s.counts)

-- for each sample the top of its class, and the missing values of that
abbrev pub corrected_samples : Resolution → ℕ → List ℕ → List ℕ
corrected_samples g i [] = []
corrected_samples g i (s ∷ S) = (top_of g s ∷ missing (top_of g s) i) ++ corrected_samples g i S
