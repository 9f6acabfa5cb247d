-- What subtracting one histogram from another makes of it. (`subtract`; the Rust crate tests and changes bin by bin.)
use Rattle.std.specs.Prelude.{◌≡◌, ℕ, ◌+◌, ◌-◌, ◌^◌, min, length, sum, slice_index}
use Rattle.hdr_model.specs.Plain.{Plain, resolution}
use Rattle.hdr_model.specs.Marks.{IsTopMark, IsLowerMark}
use Rattle.hdr_model.specs.Samples.{in_class}
use Rattle.hdr_model.specs.Merging.{lowest_values}

-- each class has lost what the source's classes hold there, each at its lowest value; total and marks are those of the numbers
pub record IsDifference (h s d : Plain) : Type 0 where
  pub bounds : d ≡ record h { counts = d.counts; total = d.total; top_mark = d.top_mark; lower_mark = d.lower_mark }
  pub bins : length d.counts ≡ length h.counts
  pub numbers : (i : ℕ) → slice_index d.counts i + in_class (resolution h) i (lowest_values s) ≡ slice_index h.counts i
  pub total : d.total ≡ min (sum d.counts) (2 ^ 64 - 1)
  pub top : IsTopMark d.counts d.top_mark
  pub lower : IsLowerMark d.counts d.lower_mark
