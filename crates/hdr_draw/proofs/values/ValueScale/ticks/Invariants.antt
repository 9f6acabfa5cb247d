use Rattle.hdr_draw.proofs.Decades.{Drawn}
use Rattle.hdr_draw.proofs.values.ValueScale.ticks.Given as goal

abbrev pub invariant-loop-step : goal.invariant-loop-step
invariant-loop-step l = Drawn l.decade l.octave l.step-items l.step-index l.ticks.items
