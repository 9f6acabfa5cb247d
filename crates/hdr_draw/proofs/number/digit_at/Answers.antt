use Rattle.std.proofs.Common.{rules, ◌≡◌, ◌≤◌, ◌/◌, ◌%◌, ◌^◌, ap, arith}
use Rattle.std.proofs.Math.Nat.{one-le-pow}
use Rattle.hdr_draw.proofs.number.digit_at.Goals as goal

pub returns-in-Some-clause-is : goal.returns-in-Some-clause-is
returns-in-Some-clause-is c =
    let p : 1 ≤ 10 ^ c.args.index = one-le-pow c.args.index 10 (omega arith) in
    let q : c.in-Some.power ≡ 10 ^ c.args.index = search (rules, c.in-Some.ensures) in
    let m : c.max.result ≡ 10 ^ c.args.index = omega (arith, c.max.ensures, p, q) in
    ap (λ n. c.args.number / n % 10) m
