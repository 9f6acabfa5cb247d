-- How many samples of cells are above values.
use Rattle.std.proofs.Common.{ℕ, ◌+◌, ◌<◌, ◌^◌, ◌++◌, ◌∷◌, [], List, length, map, take, get_or, ap, sym, ◌∙◌}
use Rattle.std.proofs.lemmas.List.{map_more}
use Rattle.hdrhistogram.specs.declared.serialization.class_decoder.RecordedClass.{RecordedClass}
use Rattle.hdr_verdict.specs.declared.above.CountsAbove.{CountsAbove}
use Rattle.hdr_verdict.specs.declared.width.Width.{Width}
use Rattle.hdr_verdict.specs.ClassSamples.{AreClassesOf}
use Rattle.hdr_verdict.specs.Tails.{count_above}
use Rattle.hdr_verdict.specs.CountsAboveFor.{AreCountsOf, PushesCell}

-- the counts of one more cell
pub counted-for : (width : Width) (cells : List (List ℕ)) (n : ℕ) (cell : List RecordedClass) (value : ℕ) (old new : CountsAbove) → n < length cells → AreClassesOf width cell (get_or cells n []) → length (get_or cells n []) < 2 ^ 64
    → AreCountsOf cells n value old → PushesCell width cell old new → AreCountsOf cells (n + 1) value new
counted-for width cells n cell value old new inside are few r p = (
  p.0 ∙ r.0,
  p.1 (get_or cells n []) are few ∙ ap (λ l. l ++ count_above old.value (get_or cells n []) ∷ []) r.1 ∙ ap (λ v. map (count_above value) (take n cells) ++ count_above v (get_or cells n []) ∷ []) r.0 ∙ sym (map_more (count_above value) cells n [] inside),
)
