use Rattle.std.proofs.Common.{◌≡◌, ℕ, List, map}
use Rattle.hdr_verdict.specs.Slow.{views_of, with_value}
use Rattle.hdr_verdict.specs.TagSamples.{HasSamples, KeepsCells}
use Rattle.hdr_verdict.proofs.search.with_values.Given as goal

abbrev pub invariant-loop-slow : goal.invariant-loop-slow
invariant-loop-slow l = record {
  keeps : KeepsCells l.initial.samples l.samples;
  found : (cells : List (List ℕ)) → HasSamples l.initial.samples cells → views_of l.all.items ≡ map (with_value l.test cells l.runs.items) (views_of l.yielded);
}
