use Rattle.std.proofs.Common.{rules, arith}
use Rattle.hdr_draw.proofs.Digits.{number_take, bounded, other_digits, same_digit}
use Rattle.hdr_draw.proofs.powers.is_at_least.Goals.{then-digits-index, else-digits-index}
use Rattle.hdr_draw.proofs.powers.is_at_least.Goals as goal

pub loop-index-preserved : goal.loop-index-preserved
loop-index-preserved c =
    let k = c.loop-index.index in
    let i = c.loop-index.invariant in
    let ds = c.args.digits.now in
    let es = c.args.others.now in
    let t = number_take ds k (search rules) in
    let u = number_take es k (search rules) in
    let a = bounded ds (λ j. omega (arith, c.type_inv.digits j)) k (search rules) in
    let b = bounded es (λ j. omega (arith, c.type_inv.others j)) k (search rules) in
    elim c.if-digits-index.branch [
      | then-digits-index w ↦ rw (t, u) (other_digits _ _ _ _ _ _ a b w.if-digits-index.true w.is_at_least-is)
      | else-digits-index w ↦ rw (t, u) (same_digit _ _ _ _ _ _ _ i w.if-digits-index.false w.is_at_least-is)
    ]
