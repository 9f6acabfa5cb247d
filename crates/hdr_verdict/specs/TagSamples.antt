-- What is known of a tag's cells.
use Rattle.std.specs.Prelude.{◌≡◌, ℕ, List, length, map}
use Rattle.hdr_verdict.specs.Samples.{Held, AreHeld, width_of, samples_of_cells, CanCount}
use Rattle.hdr_verdict.specs.Decoders.{intervals_of}
use Rattle.hdr_logs.specs.declared.stored.StoredInterval.{StoredInterval}
use Rattle.hdr_verdict.specs.declared.cell.Cell.{Cell}
use Rattle.hdr_verdict.specs.declared.width.Width.{Width}
use Rattle.hdr_verdict.specs.declared.samples.TagSamples.{TagSamples}

abbrev pub intervals_of_tag : TagSamples → List StoredInterval
intervals_of_tag s = intervals_of s.decoder

abbrev pub cells_of : TagSamples → List Cell
cells_of s = s.cells.items

abbrev pub width_of_tag : TagSamples → Width
width_of_tag s = s.width

-- the samples of the cells are these, as far as they can be counted
pub record HasSamples (s : TagSamples) (cells : List (List ℕ)) : Type 0 where
  pub all : List Held
  pub held : AreHeld (intervals_of s.decoder) all
  pub width : s.width ≡ width_of all
  pub are : cells ≡ samples_of_cells all s.width s.cells.items
  pub counts : map (λ cell. cell.samples) s.cells.items ≡ map length cells
  pub fits : CanCount cells

-- the same intervals, cells and width
pub record KeepsCells (old new : TagSamples) : Type 0 where
  pub intervals : intervals_of new.decoder ≡ intervals_of old.decoder
  pub cells : new.cells.items ≡ old.cells.items
  pub width : new.width ≡ old.width
