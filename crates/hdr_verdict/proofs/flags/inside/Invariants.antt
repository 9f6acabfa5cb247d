use Rattle.std.proofs.Common.{◌≡◌}
use Rattle.hdr_verdict.specs.Slow.{inside}
use Rattle.hdr_verdict.proofs.flags.inside.Given as goal

abbrev pub invariant-loop-index : goal.invariant-loop-index
invariant-loop-index l = l.inside.items ≡ inside l.runs l.index
