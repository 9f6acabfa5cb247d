use Rattle.hdr_tool.proofs.Common.{arith}
use Rattle.hdr_tool.proofs.OutcomesRuns.{appends_more}
use Rattle.hdr_tool.proofs.stream.write_all.Goals as goal

pub loop-at-preserved : goal.loop-at-preserved
loop-at-preserved g c = record {
  within = omega (arith, c.in-Ok.ensures.bound);
  written = appends_more _ (g.W.Write.contents c.loop-at.writer) _ c.args.text.now c.loop-at.at c.in-Ok.count c.loop-at.invariant.written c.in-Ok.ensures.bytes;
}
