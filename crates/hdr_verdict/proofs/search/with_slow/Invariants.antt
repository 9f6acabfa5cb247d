use Rattle.std.proofs.Common.{◌≡◌, Bool, ℕ, List, filter, not}
use Rattle.std.specs.List.{fold}
use Rattle.hdr_verdict.specs.Slow.{Slow, is_same, joined, views_of, view_of_slow}
use Rattle.hdr_verdict.specs.TagSamples.{HasSamples, KeepsCells}
use Rattle.hdr_verdict.proofs.search.with_slow.Given as goal

abbrev pub invariant-loop-earlier : goal.invariant-loop-earlier
invariant-loop-earlier l = record {
  keeps : KeepsCells l.initial.samples l.samples;
  found : (cells : List (List ℕ)) → HasSamples l.initial.samples cells
      → let same : Slow → Bool = λ earlier. is_same l.test cells l.value l.run earlier.run in
      (views_of l.kept.items ≡ filter (λ earlier. not (same earlier)) (views_of l.yielded))
      × (view_of_slow l.slow ≡ fold joined (view_of_slow l.initial.slow) (filter same (views_of l.yielded)));
}
