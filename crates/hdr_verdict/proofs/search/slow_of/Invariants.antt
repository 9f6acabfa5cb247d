use Rattle.std.proofs.Common.{◌≡◌, [], ℕ, List, take}
use Rattle.std.specs.List.{fold}
use Rattle.hdr_verdict.specs.Slow.{after_test, views_of}
use Rattle.hdr_verdict.specs.TagSamples.{HasSamples, KeepsCells}
use Rattle.hdr_verdict.proofs.search.slow_of.Given as goal

abbrev pub invariant-loop-index : goal.invariant-loop-index
invariant-loop-index l = record {
  keeps : KeepsCells l.initial.samples l.samples;
  found : (cells : List (List ℕ)) → HasSamples l.fn.samples cells → views_of l.found.items ≡ fold (after_test l.bar cells) [] (take l.index l.tests);
}
