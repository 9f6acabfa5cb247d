use Rattle.std.proofs.Common.{rules, ◌+◌, ◌*◌, sym, ap, ◌∙◌, take_all}
use Rattle.std.proofs.lemmas.List.{length_push}
use Rattle.hdr_draw.specs.Rows.{number}
use Rattle.hdr_draw.proofs.Digits.{push_digit, number_take, power_more, times_step}
use Rattle.hdr_draw.proofs.powers.times.Goals as goal

pub loop-digit-preserved : goal.loop-digit-preserved
loop-digit-preserved c =
    let i = c.loop-digit.invariant in
    let k = c.loop-digit.digit-index in
    let p = c.in_ok-push.ensures.items in
    let t = number_take c.args.digits.now k (search rules) in
    let d = push_digit c.loop-digit.product.items c.times_digit-low.result.0 k i.0 in
    let s = times_step _ _ _ _ _ _ _ _ i.1 c.times_digit-low.ensures in
    (rw p (length_push c.loop-digit.product.items c.times_digit-low.result.0 ∙ ap (λ n. n + 1) i.0), rw (t, p, d, power_more k) s)

pub returns-clause-value : goal.returns-clause-value
returns-clause-value c =
    let i = c.loop-digit.invariant in
    let p = c.in_ok-push-2.ensures.items in
    let d = push_digit c.loop-digit.product.items c.loop-digit.carry c.loop-digit.digit-index i.0 in
    let a = take_all c.loop-digit.digit-index c.args.digits.now (search rules) in
    rw (p, d) (sym i.1 ∙ ap (λ ds. number ds * c.args.factor) a)
