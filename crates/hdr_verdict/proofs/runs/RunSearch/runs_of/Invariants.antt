use Rattle.std.proofs.Common.{◌≡◌, take}
use Rattle.std.specs.List.{fold}
use Rattle.hdr_verdict.specs.Runs.{view_of_search, empty_search, after_cell}
use Rattle.hdr_verdict.proofs.runs.RunSearch.runs_of.Given as goal

abbrev pub invariant-loop-score : goal.invariant-loop-score
invariant-loop-score l = record {
  so_far : view_of_search l.search ≡ fold (λ s score. after_cell s score score) (empty_search l.bar) (take l.score-index l.scores);
  cells : (view_of_search l.search).cells ≡ l.score-index;
}
