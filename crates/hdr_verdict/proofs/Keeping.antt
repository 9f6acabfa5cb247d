-- A tag's samples are known as long as its intervals, cells and width stay.
use Rattle.std.proofs.Common.{◌≡◌, ℕ, ◌-◌, ◌^◌, List, length, map, min, sum, ap, sym, subst, arith, ◌∙◌}
use Rattle.std.proofs.lemmas.List.{length-map}
use Rattle.std.specs.List.{sum_by}
use Rattle.hdr_verdict.proofs.CellSamples.{sum-map}
use Rattle.hdr_verdict.specs.declared.cell.Cell.{Cell}
use Rattle.hdr_verdict.specs.declared.samples.TagSamples.{TagSamples}
use Rattle.hdr_verdict.specs.Samples.{AreHeld, samples_of_cells, samples_between, rounded}
use Rattle.hdr_verdict.specs.TagSamples.{HasSamples, KeepsCells}

pub keeps-samples : (old new : TagSamples) (cells : List (List ℕ)) → KeepsCells old new → HasSamples old cells → HasSamples new cells
keeps-samples old new cells keeps s = record {
  all = s.all;
  held = subst (λ l. AreHeld l s.all) (sym keeps.intervals) s.held;
  width = keeps.width ∙ s.width;
  are = s.are ∙ ap (λ w. samples_of_cells s.all w old.cells.items) (sym keeps.width) ∙ ap (samples_of_cells s.all new.width) (sym keeps.cells);
  counts = ap (map (λ (cell : Cell). cell.samples)) keeps.cells ∙ s.counts;
  fits = s.fits;
}

pub keeps-both : (old mid new : TagSamples) → KeepsCells old mid → KeepsCells mid new → KeepsCells old new
keeps-both old mid new one two = record { intervals = two.intervals ∙ one.intervals; cells = two.cells ∙ one.cells; width = two.width ∙ one.width }

pub many-cells : (s : TagSamples) (cells : List (List ℕ)) → HasSamples s cells → length cells ≡ length s.cells.items
many-cells s cells has = ap length has.are ∙ length-map s.cells.items (λ (cell : Cell). rounded s.width (samples_between has.all cell.first cell.next))

-- the samples of all cells are counted in full
pub total-is : (s : TagSamples) (cells : List (List ℕ)) → HasSamples s cells → min (sum_by (λ (cell : Cell). cell.samples) s.cells.items) (2 ^ 64 - 1) ≡ sum_by length cells
total-is s cells has =
    let same = sym (sum-map (λ (cell : Cell). cell.samples) s.cells.items) ∙ ap sum has.counts ∙ sum-map length cells in
    omega (arith, same, has.fits)
