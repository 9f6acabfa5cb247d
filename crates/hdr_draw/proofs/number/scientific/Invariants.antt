use Rattle.std.proofs.Common.{◌≡◌, ◌≤◌, ◌*◌, ◌^◌}
use Rattle.hdr_draw.proofs.number.scientific.Given as goal

abbrev pub invariant-loop : goal.invariant-loop
invariant-loop l = (l.tens ≡ l.initial.tens * 10 ^ l.power) × (l.power ≤ l.counter)
