use Rattle.std.proofs.Common.{arith}
use Rattle.hdr_counts.proofs.BlocksSums.{clear_more, zeros-of}
use Rattle.hdr_counts.proofs.clearing.clear_section.Goals as goal

pub returns-then-had-eq0 : goal.returns-then-had-eq0
returns-then-had-eq0 g c = zeros-of g.T.Counter.number c.args.counters.now (omega (arith, c.requires))

pub loop-counter-preserved : goal.loop-counter-preserved
loop-counter-preserved g c =
    clear_more g.T.Counter.number c.loop-counter.counters c.loop-counter.counter-index c.zero.result (omega arith) c.loop-counter.invariant c.zero.ensures
