use Rattle.std.proofs.Common.{◌≡◌, ℕ, List, take}
use Rattle.hdr_verdict.specs.Tests.{usual_tests}
use Rattle.hdr_verdict.specs.TagSamples.{HasSamples}
use Rattle.hdr_verdict.proofs.tests.usual_tests.Given as goal

abbrev pub invariant-loop-index : goal.invariant-loop-index
invariant-loop-index l = (cells : List (List ℕ)) → HasSamples l.fn.samples cells → l.tests.items ≡ usual_tests (take l.index l.tails) cells
