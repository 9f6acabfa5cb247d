use Rattle.std.proofs.Common.{◌≡◌, ℕ, List, take}
use Rattle.std.specs.List.{fold}
use Rattle.hdr_verdict.specs.Slow.{after_run, views_of}
use Rattle.hdr_verdict.specs.TagSamples.{HasSamples, KeepsCells}
use Rattle.hdr_verdict.proofs.search.after_test.Given as goal

abbrev pub invariant-loop-run : goal.invariant-loop-run
invariant-loop-run l = record {
  keeps : KeepsCells l.initial.samples l.samples;
  found : (cells : List (List ℕ)) → HasSamples l.initial.samples cells
      → views_of l.found.items ≡ fold (after_run l.test cells l.scored.explained.items l.scored.scores.items) (views_of l.initial.found.items) (take l.run-index l.run-items);
}
