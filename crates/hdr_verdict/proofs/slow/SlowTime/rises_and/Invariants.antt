use Rattle.std.proofs.Common.{◌≡◌, ◌++◌, filter, not, take}
use Rattle.hdr_verdict.specs.declared.slow.Rise.{Rise}
use Rattle.hdr_verdict.specs.Slow.{has_tail}
use Rattle.hdr_verdict.proofs.slow.SlowTime.rises_and.Given as goal

abbrev pub invariant-loop-rise : goal.invariant-loop-rise
invariant-loop-rise l = l.rises.items ≡ l.self.rises.items ++ filter (λ (rise : Rise). not (has_tail l.self.rises.items rise.tail)) (take l.rise-index l.more)
