use Rattle.std.proofs.Common.{ℕ, List}
use Rattle.std.specs.List.{AllZip}
use Rattle.hdr_verdict.specs.CountsAboveFor.{AreCountsOf}
use Rattle.hdr_verdict.specs.TagSamples.{HasSamples, KeepsCells}
use Rattle.hdr_verdict.proofs.counting.counts_above.Given as goal

abbrev pub invariant-loop-index : goal.invariant-loop-index
invariant-loop-index l = record {
  keeps : KeepsCells l.initial.samples l.samples;
  counts : (cells : List (List ℕ)) → HasSamples l.initial.samples cells → AllZip (AreCountsOf cells l.index) l.values l.all.items;
}
