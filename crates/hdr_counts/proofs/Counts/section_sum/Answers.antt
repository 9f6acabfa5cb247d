use Rattle.std.proofs.Common.{◌≡◌, ◌+◌, ◌*◌, ◌<◌, ◌≤◌, length, get_or, arith}
use Rattle.std.proofs.lemmas.List.{get_or_read}
use Rattle.std.proofs.Math.Nat.{mul-le-mul_right, mul-le-mul_left}
use Rattle.hdr_counts.proofs.Counts.section_sum.Goals as goal

pub returns-then-k-len-clause-sum : goal.returns-then-k-len-clause-sum
returns-then-k-len-clause-sum g c =
    let s = c.self.inside in
    let k = c.args.k in
    let sums = c.self.invariant.sums_are in
    let lt : k < length s.sums.items = omega (arith, c.if-k-len.true, c.len.ensures) in
    let at : c.index.result.now ≡ get_or s.sums.items k 0 = get_or_read s.sums.items k c.index.result.now lt c.index.ensures 0 in
    let next : k + 1 ≤ length s.sums.items = omega (arith, lt) in
    let row : (k + 1) * s.section ≤ length s.sums.items * s.section = mul-le-mul_right s.section next in
    rw (← c.self.view_is, ← c.self.invariant.sections.section_is) (omega (arith, at, sums.each k lt), omega (arith, row, sums.whole))

pub returns-else-k-len-clause-sum : goal.returns-else-k-len-clause-sum
returns-else-k-len-clause-sum g c =
    let s = c.self.inside in
    let sums = c.self.invariant.sums_are in
    let le : length s.sums.items ≤ c.args.k = omega (arith, c.if-k-len.false, c.len.ensures) in
    let row : length s.sums.items * s.section ≤ c.args.k * s.section = mul-le-mul_right s.section le in
    rw (← c.self.view_is, ← c.self.invariant.sections.section_is) (omega (arith, row, sums.whole))

pub returns-then-k-len-clause-inside : goal.returns-then-k-len-clause-inside
returns-then-k-len-clause-inside g c =
    let s = c.self.inside in
    let k = c.args.k in
    let sums = c.self.invariant.sums_are in
    let lt : k + 1 ≤ length s.sums.items = omega (arith, c.if-k-len.true, c.len.ensures) in
    let row : (k + 1) * s.section ≤ length s.sums.items * s.section = mul-le-mul_right s.section lt in
    let some : 1 ≤ s.section = sums.some in
    let wide : (k + 1) * 1 ≤ (k + 1) * s.section = mul-le-mul_left (k + 1) some in
    rw (← c.self.view_is) (omega (arith, row, wide, sums.whole))

pub returns-then-k-len-clause-at_most : goal.returns-then-k-len-clause-at_most
returns-then-k-len-clause-at_most g c = rw (← c.self.view_is) c.self.invariant.sums_are.few

pub returns-else-k-len-clause-at_most : goal.returns-else-k-len-clause-at_most
returns-else-k-len-clause-at_most g c = rw (← c.self.view_is) c.self.invariant.sums_are.few
