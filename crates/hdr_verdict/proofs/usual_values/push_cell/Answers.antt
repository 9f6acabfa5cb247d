use Rattle.std.proofs.Common.{arith}
use Rattle.hdr_verdict.specs.Blocks.{Pushes}
use Rattle.hdr_logs.proofs.Changed.{changed-step, changed-all}
use Rattle.hdr_verdict.proofs.usual_values.push_cell.Goals as goal

pub loop-blocks-preserved : goal.loop-blocks-preserved
loop-blocks-preserved c =
    changed-step (Pushes c.args.cell.now) c.args.all.now c.loop-blocks.all c.loop-blocks.blocks-index c.blocks-item.result c.push.new.self (omega (arith, c.loop-blocks-test.true, c.loop-blocks.auto.all)) c.loop-blocks.invariant c.in_ok-push.ensures

pub returns : goal.returns
returns c = changed-all (Pushes c.args.cell.now) c.args.all.now c.loop-blocks.all c.loop-blocks.blocks-index c.loop-blocks.auto.all c.loop-blocks-test.false c.loop-blocks.invariant
