use Rattle.std.proofs.Common.{◌≤◌, ◌^◌, arith}
use Rattle.std.proofs.Math.Nat.{one-le-pow}
use Rattle.hdr_summary.proofs.levels.Level.is_whole.Goals as goal

pub nonzero_rem-result : goal.nonzero_rem-result
nonzero_rem-result c =
    let some : 1 ≤ 10 ^ c.args.self.now.number.decimals = one-le-pow c.args.self.now.number.decimals 10 (omega arith) in
    omega (arith, c.pow-2.ensures, some)
