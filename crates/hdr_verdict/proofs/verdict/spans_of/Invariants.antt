use Rattle.std.proofs.Common.{◌≡◌, map, take}
use Rattle.hdr_verdict.specs.Slow.{runs_in, views_of}
use Rattle.hdr_verdict.specs.Verdicts.{span_of}
use Rattle.hdr_verdict.proofs.verdict.spans_of.Given as goal

abbrev pub invariant-loop-time : goal.invariant-loop-time
invariant-loop-time l = l.spans.items ≡ map (span_of l.cells) (runs_in (views_of (take l.time-index l.slow)))
