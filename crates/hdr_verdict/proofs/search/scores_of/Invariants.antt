use Rattle.std.proofs.Common.{◌≡◌, ℕ, false, List, [], length, map, get_or}
use Rattle.std.specs.List.{All, range_with_len}
use Rattle.hdr_verdict.specs.declared.cell.Cell.{Cell}
use Rattle.hdr_verdict.specs.Runs.{Fits}
use Rattle.hdr_verdict.specs.Slow.{score_of}
use Rattle.hdr_verdict.specs.Tails.{count_above}
use Rattle.hdr_verdict.proofs.search.scores_of.Given as goal

abbrev pub invariant-loop-index : goal.invariant-loop-index
invariant-loop-index l = record {
  scores : (all : List (List ℕ)) → map (λ (cell : Cell). cell.samples) l.cells ≡ map length all → l.above ≡ map (count_above l.test.threshold) all
      → l.scores.items ≡ map (λ i. score_of l.test (get_or l.explained i false) (get_or all i [])) (range_with_len 0 l.index);
  fit : All Fits l.scores.items;
  many : length l.scores.items ≡ l.index;
}
