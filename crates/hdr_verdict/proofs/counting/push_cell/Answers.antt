use Rattle.std.proofs.Common.{arith}
use Rattle.hdr_verdict.specs.CountsAboveFor.{PushesCell}
use Rattle.hdr_logs.proofs.Changed.{changed-step, changed-all}
use Rattle.hdr_verdict.proofs.counting.push_cell.Goals as goal

pub loop-above-preserved : goal.loop-above-preserved
loop-above-preserved c =
    changed-step (PushesCell c.args.width c.args.cell.now) c.args.all.now c.loop-above.all c.loop-above.above-index c.above-item.result c.push.new.self (omega (arith, c.loop-above-test.true, c.loop-above.auto.all)) c.loop-above.invariant c.in_ok-push.ensures

pub returns : goal.returns
returns c = changed-all (PushesCell c.args.width c.args.cell.now) c.args.all.now c.loop-above.all c.loop-above.above-index c.loop-above.auto.all c.loop-above-test.false c.loop-above.invariant
