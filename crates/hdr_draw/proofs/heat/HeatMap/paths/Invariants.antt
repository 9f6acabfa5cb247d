use Rattle.std.proofs.Common.{◌≡◌, length}
use Rattle.hdr_draw.proofs.heat.HeatMap.paths.Given as goal

abbrev pub invariant-loop : goal.invariant-loop
invariant-loop l = length l.paths.items ≡ l.counter

abbrev pub invariant-loop-column : goal.invariant-loop-column
invariant-loop-column l = length l.paths.items ≡ 8
