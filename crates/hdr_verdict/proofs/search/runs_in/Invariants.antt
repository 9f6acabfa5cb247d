use Rattle.std.proofs.Common.{◌≡◌, take}
use Rattle.hdr_verdict.specs.Slow.{runs_in, views_of}
use Rattle.hdr_verdict.proofs.search.runs_in.Given as goal

abbrev pub invariant-loop-slow : goal.invariant-loop-slow
invariant-loop-slow l = l.runs.items ≡ runs_in (views_of (take l.slow-index l.found))
