use Rattle.std.proofs.Common.{◌+◌, ◌*◌, ◌^◌, ◌≤◌, arith}
use Rattle.hdr_compare.proofs.Bounds.{near-fits, whole-fits, reach-fits}
use Rattle.hdr_compare.proofs.ranks.is_far.Goals as goal

pub overflow_mul-most-5 : goal.overflow_mul-most-5
overflow_mul-most-5 c =
    let n = c.from-samples.result in
    let num = c.from-num.result in
    let den = c.from-den.result in
    let rank = c.from-rank.result in
    let proper : num ≤ den = omega (arith, c.from-num.ensures, c.num.ensures, c.from-den.ensures, c.den.ensures.value, c.requires.proper) in
    let inside : rank ≤ n = omega (arith, c.from-rank.ensures, c.from-samples.ensures, c.requires.rank) in
    let few : n ≤ 2 ^ 30 = omega (arith, c.from-samples.ensures, c.requires.samples) in
    let small : den ≤ 1000000 = omega (arith, c.from-den.ensures, c.den.ensures.value, c.requires.den) in
    let normal : c.from-normal.result ≤ 4418 = omega (arith, c.from-normal.ensures, c.normal.ensures.at_most) in
    omega (arith, reach-fits c.from-normal.result (2 * num * n + rank * den) (3 * den * n) normal (near-fits n num den rank proper inside) (whole-fits n den few small))
