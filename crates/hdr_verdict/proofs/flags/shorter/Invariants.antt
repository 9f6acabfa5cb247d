use Rattle.std.proofs.Common.{◌≡◌, take}
use Rattle.hdr_verdict.specs.Slow.{shorter_than}
use Rattle.hdr_verdict.proofs.flags.shorter.Given as goal

abbrev pub invariant-loop-other : goal.invariant-loop-other
invariant-loop-other l = l.shorter.items ≡ shorter_than l.run (take l.other-index l.runs)
