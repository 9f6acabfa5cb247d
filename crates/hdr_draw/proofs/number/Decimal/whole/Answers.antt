use Rattle.std.proofs.Common.{rules, ◌≡◌, ◌≤◌, ◌/◌, ◌^◌, ap, arith}
use Rattle.std.proofs.Math.Nat.{one-le-pow}
use Rattle.hdr_draw.proofs.number.Decimal.whole.Goals as goal

pub returns-in-Some : goal.returns-in-Some
returns-in-Some c =
    let p : 1 ≤ 10 ^ c.args.self.decimals = one-le-pow c.args.self.decimals 10 (omega arith) in
    let q : c.in-Some.one ≡ 10 ^ c.args.self.decimals = search (rules, c.in-Some.ensures) in
    let m : c.max.result ≡ 10 ^ c.args.self.decimals = omega (arith, c.max.ensures, p, q) in
    ap (λ n. c.args.self.parts / n) m
