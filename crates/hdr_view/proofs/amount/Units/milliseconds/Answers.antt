use Rattle.std.proofs.Common.{◌^◌, ◌≤◌, arith}
use Rattle.std.proofs.Math.Nat.{one-le-pow}
use Rattle.hdr_view.proofs.amount.Units.milliseconds.Goals as goal

pub nonzero_div-result : goal.nonzero_div-result
nonzero_div-result c =
    let parts : 1 ≤ 10 ^ c.args.self.decimals = one-le-pow c.args.self.decimals 10 (omega arith) in
    omega (arith, c.parts.ensures, parts)
