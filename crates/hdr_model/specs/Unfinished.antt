-- A histogram whose bins are being set, and what it is when that is done. (No item of the Rust crate: its deserializer sets
-- counters and keeps total and marks beside them.)
use Rattle.std.specs.Prelude.{◌≡◌, ℕ, ◌-◌, ◌*◌, ◌^◌, ◌<◌, ◌≤◌, Bool, min, List, length, sum}
use Rattle.hdr_base.specs.Classes.{Resolution, resolution_of, bins_to, HasScale}
use Rattle.hdr_counts.specs.Blocks.{Blocks}
use Rattle.hdr_model.specs.Plain.{Plain}
use Rattle.hdr_model.specs.Marks.{IsTopMark, IsLowerMark}

-- the bounds, and a number for each bin
pub record Unfinished : Type 0 where
  pub low : ℕ
  pub high : ℕ
  pub sigfig : ℕ
  pub auto_resize : Bool
  pub counts : List ℕ

-- a histogram without its total and its marks
abbrev pub unfinished_of : Plain → Unfinished
unfinished_of h = record { low = h.low; high = h.high; sigfig = h.sigfig; auto_resize = h.auto_resize; counts = h.counts }

-- the histogram of these bounds and numbers: total and marks are those of the numbers
pub record IsClosed (f : Unfinished) (h : Plain) : Type 0 where
  pub same : unfinished_of h ≡ f
  pub total : h.total ≡ min (sum h.counts) (2 ^ 64 - 1)
  pub top : IsTopMark h.counts h.top_mark
  pub lower : IsLowerMark h.counts h.lower_mark

-- what is true of the bounds and the bins: the scale is that of the bounds, a block is half of the first bucket, and there is a
-- bin for each class
pub record AreBinsFor (low high sigfig : ℕ) (scale : Resolution) (bins : Blocks) : Type 0 where
  pub same_scale : scale ≡ resolution_of low sigfig
  pub block : bins.block ≡ 2 ^ ((resolution_of low sigfig).digits - 1)
  pub has_scale : HasScale low sigfig
  pub high_fits : high < 2 ^ 64
  pub wide : 2 * low ≤ high
  pub whole : length bins.numbers ≡ bins_to (resolution_of low sigfig) high
