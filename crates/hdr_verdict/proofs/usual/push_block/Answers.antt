use Rattle.std.proofs.Common.{arith}
use Rattle.hdr_verdict.specs.Blocks.{AppendsBlock}
use Rattle.hdr_logs.proofs.Changed.{changed-step, changed-all}
use Rattle.hdr_verdict.proofs.usual.push_block.Goals as goal

pub loop-own-preserved : goal.loop-own-preserved
loop-own-preserved c =
    changed-step (AppendsBlock c.args.width c.args.block.now) c.args.all.now c.loop-own.all c.loop-own.own-index c.own-item.result c.push.new.self (omega (arith, c.loop-own-test.true, c.loop-own.auto.all)) c.loop-own.invariant c.in_ok-push.ensures

pub returns : goal.returns
returns c = changed-all (AppendsBlock c.args.width c.args.block.now) c.args.all.now c.loop-own.all c.loop-own.own-index c.loop-own.auto.all c.loop-own-test.false c.loop-own.invariant
