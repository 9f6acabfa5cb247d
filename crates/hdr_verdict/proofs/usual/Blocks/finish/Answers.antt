use Rattle.std.proofs.Common.{◌≡◌, length, drop, sym, subst, arith}
use Rattle.std.specs.List.{AllZip}
use Rattle.hdr_verdict.specs.Blocks.{AppendsBlock}
use Rattle.hdr_logs.proofs.Changed.{refilled}
use Rattle.hdr_verdict.proofs.usual.Blocks.finish.Goals as goal

pub returns-clause-values : goal.returns-clause-values
returns-clause-values c =
    let old = c.args.self.now in
    let R = AppendsBlock old.width old.part in
    let pushed = subst (λ l. AllZip R l c.push_block.new.all) c.deref_mut.ensures.value c.in_ok-push_block.ensures in
    let many : length c.push_block.new.all ≡ old.tails.len = omega (arith, c.push_block.auto.all, c.deref_mut.ensures.len) in
    subst (AllZip R old.tails.items) (sym (refilled old.tails.len c.push_block.new.all (drop (length c.push_block.new.all) old.tails.items) many)) pushed
