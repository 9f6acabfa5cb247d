use Rattle.std.proofs.Common.{arith}
use Rattle.hdrhistogram.proofs.PayloadWriting.{full_more, full_same}
use Rattle.hdrhistogram.proofs.serialization.payload.nonempty.Goals as goal
use Rattle.hdrhistogram.proofs.serialization.payload.nonempty.Goals.{then-as_u64-gt0, else-as_u64-gt0}

pub loop-counter-preserved : goal.loop-counter-preserved
loop-counter-preserved g c =
    elim c.if-as_u64-gt0.branch [
      | then-as_u64-gt0 w ↦ record {
        full = rw w.full-is (full_more g.T.Counter.number c.args.counters.now c.loop-counter.counter-index c.counter-item.result c.loop-counter.full c.loop-counter-test.true c.counter-item.is (omega (arith, w.if-as_u64-gt0.true, c.as_u64.ensures.value)) c.loop-counter.invariant.full);
        few = rw w.full-is (omega (arith, c.loop-counter.invariant.few));
      }
      | else-as_u64-gt0 w ↦ record {
        full = rw w.full-is (full_same g.T.Counter.number c.args.counters.now c.loop-counter.counter-index c.counter-item.result c.loop-counter.full c.loop-counter-test.true c.counter-item.is (omega (arith, w.if-as_u64-gt0.false, c.as_u64.ensures.value)) c.loop-counter.invariant.full);
        few = rw w.full-is (omega (arith, c.loop-counter.invariant.few));
      }
    ]
