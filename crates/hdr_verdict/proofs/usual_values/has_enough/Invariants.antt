use Rattle.std.proofs.Common.{ℕ, ◌*◌, ◌<◌, get_or}
use Rattle.hdr_verdict.specs.Usual.{least_block}
use Rattle.hdr_verdict.specs.declared.tail.Tail.{Tail}
use Rattle.hdr_verdict.proofs.usual_values.has_enough.Given as goal

abbrev pub invariant-loop-tail : goal.invariant-loop-tail
invariant-loop-tail l = (k : ℕ) (d : Tail) → k < l.tail-index → l.fn.total < 4 * least_block (get_or l.fn.tails k d).num (get_or l.fn.tails k d).den 0
