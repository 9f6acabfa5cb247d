use Rattle.std.proofs.Common.{◌≡◌, map, take}
use Rattle.hdr_verdict.specs.declared.slow.Test.{Test}
use Rattle.hdr_verdict.proofs.search.thresholds_of.Given as goal

abbrev pub invariant-loop-test : goal.invariant-loop-test
invariant-loop-test l = l.thresholds.items ≡ map (λ (test : Test). test.threshold) (take l.test-index l.tests)
