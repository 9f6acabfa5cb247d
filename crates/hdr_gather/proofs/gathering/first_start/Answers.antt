use Rattle.std.proofs.Common.{◌≡◌, ◌≤◌, ◌↔◌, IfSome, take, take_all, subst, arith}
use Rattle.std.specs.List.{All}
use Rattle.hdr_gather.specs.Left.{IsFrom}
use Rattle.hdr_logs.proofs.Parts.{all_so_far}
use Rattle.hdr_gather.proofs.gathering.first_start.Goals as goal

pub loop-log-preserved : goal.loop-log-preserved
loop-log-preserved g c = λ low.
    let one = subst (λ o. IfSome c.earlier-first.result (λ t. low ≤ t) ↔ (IfSome c.loop-log.first (λ t. low ≤ t) × IfSome o (λ t. low ≤ t))) c.next_start.ensures (c.earlier-first.ensures low) in
    all_so_far (IsFrom low) c.args.logs.now c.loop-log.log-index c.log-item.result c.loop-log-test.true c.log-item.is (c.loop-log.invariant low) one

pub returns : goal.returns
returns g c = λ low.
    let logs = c.args.logs.now in
    let all : take c.loop-log.log-index logs ≡ logs = take_all c.loop-log.log-index logs (omega (arith, c.loop-log-test.false)) in
    subst (λ l. IfSome c.loop-log.first (λ t. low ≤ t) ↔ All (IsFrom low) l) all (c.loop-log.invariant low)
