use Rattle.std.proofs.Common.{arith}
use Rattle.hdrhistogram.proofs.VarintWriting.{Appends-more}
use Rattle.hdrhistogram.proofs.serialization.streams.write_all.Goals as goal

pub loop-done-preserved : goal.loop-done-preserved
loop-done-preserved g c = record {
  within = omega (arith, c.in_ok-taken.ensures.bound);
  written = Appends-more _ _ _ _ _ _ c.loop-done.invariant.written c.in_ok-taken.ensures.bytes;
}
