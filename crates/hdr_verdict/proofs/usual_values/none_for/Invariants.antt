use Rattle.std.proofs.Common.{◌≡◌, None, map, take}
use Rattle.hdr_verdict.specs.declared.tail.Tail.{Tail}
use Rattle.hdr_verdict.proofs.usual_values.none_for.Given as goal

abbrev pub invariant-loop-tail : goal.invariant-loop-tail
invariant-loop-tail l = l.usual.items ≡ map (λ (t : Tail). None) (take l.tail-index l.fn.tails)
