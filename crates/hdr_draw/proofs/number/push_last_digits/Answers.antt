use Rattle.std.proofs.Common.{◌≡◌, ℕ, suc, ◌+◌, ◌-◌, ◌/◌, ◌%◌, ◌^◌, List, ◌++◌, append_assoc, arith}
use Rattle.std.specs.Fmt.{decimal}
use Rattle.hdr_draw.specs.Numbers.{last_digits}
use Rattle.hdr_draw.proofs.number.push_last_digits.Goals as goal

-- one digit more of those that are left
next : (n left k p digit : ℕ) (written new all : List ℕ) → left ≡ suc k → p ≡ k → digit ≡ n / 10 ^ p % 10
    → new ≡ written ++ decimal digit → written ++ last_digits left n ≡ all → new ++ last_digits k n ≡ all
next n left k p digit written new all e f d w i =
    let j : written ++ (decimal (n / 10 ^ k % 10) ++ last_digits k n) ≡ all = rw e at i in
    rw (w, append_assoc, d, f) j

pub loop-index-preserved : goal.loop-index-preserved
loop-index-preserved c =
    let e : c.args.digits - c.loop-index.index ≡ suc (c.args.digits - (c.loop-index.index + 1)) = omega arith in
    let p : c.args.digits - 1 - c.loop-index.index ≡ c.args.digits - (c.loop-index.index + 1) = omega arith in
    next c.args.number _ _ _ c.digit_at-digit.result _ _ _ e p c.digit_at-digit.ensures.is c.in_ok-write.ensures.bytes c.loop-index.invariant
