use Rattle.std.proofs.Common.{length}
use Rattle.hdr_input.proofs.lines.record_lines.Given as goal

-- what was taken so far
abbrev pub invariant-loop-rest : goal.invariant-loop-rest
invariant-loop-rest g l = g.S.NumberSink.takes l.initial.sink l.sink

-- the text that is left
abbrev pub decreases-loop-rest : goal.decreases-loop-rest
decreases-loop-rest g l = length l.rest
