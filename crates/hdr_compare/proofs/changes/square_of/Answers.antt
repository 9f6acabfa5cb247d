use Rattle.std.proofs.Common.{◌^◌, ◌<◌, ◌≤◌, arith}
use Rattle.hdr_compare.proofs.Bounds.{square-fits}
use Rattle.hdr_compare.proofs.changes.square_of.Goals as goal

pub overflow_mul-result : goal.overflow_mul-result
overflow_mul-result c =
    let few : c.from.result ≤ 10000000 = omega (arith, c.from.ensures, c.requires.factor) in
    let small : c.from-2.result < 2 ^ 40 = omega (arith, c.from-2.ensures, c.saturating_sub.ensures, c.requires.greater) in
    omega (arith, square-fits c.from.result c.from-2.result few small)

pub returns-clause-bound : goal.returns-clause-bound
returns-clause-bound c =
    let few : c.from.result ≤ 10000000 = omega (arith, c.from.ensures, c.requires.factor) in
    let small : c.from-2.result < 2 ^ 40 = omega (arith, c.from-2.ensures, c.saturating_sub.ensures, c.requires.greater) in
    square-fits c.from.result c.from-2.result few small
