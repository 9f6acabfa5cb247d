use Rattle.std.proofs.Common.{◌≡◌, ◌+◌, ◌-◌, ◌*◌, map, sum, take, drop, sym, ap, subst, arith}
use Rattle.hdr_counts.specs.Blocks.{Blocks, sum_below, IsFirstToReach}
use Rattle.hdr_counts.proofs.BlocksSums.{part_whole}
use Rattle.hdr_counts.proofs.BlocksPlaces.{first-in-part}
use Rattle.hdr_counts.proofs.Counts.find.Given as given
use Rattle.hdr_counts.proofs.Counts.find.Goals as goal
use Rattle.hdr_counts.proofs.Counts.find.Goals.{After-from_residual}

-- if a block's sum reaches the rank, an index is found
found : (g : given.Over) (c : After-from_residual g) → ⊥
found g c =
    let n = g.T.Counter.number in
    let s = c.self.inside in
    let a = c.loop-k.k * s.block in
    let w = a + s.block - a in
    let value : sum_below (map n s.counters.items) a + c.look_block-sum.result ≡ sum_below (map n s.counters.items) ((c.loop-k.k + 1) * s.block) = rw (← c.self.view_is) at c.look_block-sum.ensures.value in
    let end : a + w ≡ (c.loop-k.k + 1) * s.block = omega arith in
    let part = ap (λ l. sum (map n (take w (drop a l)))) c.deref.ensures.value in
    omega (arith, value, part_whole n s.counters.items a w, ap (sum_below (map n s.counters.items)) end, part, c.in_err-place.ensures.index, c.from.ensures, c.if-sum-from.true)

pub returns-in_err-place-clause-index : goal.returns-in_err-place-clause-index
returns-in_err-place-clause-index g c = absurd (found g (goal.at.returns-in_err-place-clause-index g c).After-from_residual)

pub returns-in_err-place-clause-ticks : goal.returns-in_err-place-clause-ticks
returns-in_err-place-clause-ticks g c = absurd (found g (goal.at.returns-in_err-place-clause-ticks g c).After-from_residual)

pub returns-then-sum-from-clause-index : goal.returns-then-sum-from-clause-index
returns-then-sum-from-clause-index g c =
    let n = g.T.Counter.number in
    let s = c.self.inside in
    let a = c.loop-k.k * s.block in
    let place = c.in_ok-place.place in
    let left : c.loop-k.rest + sum_below (map n s.counters.items) a ≡ c.args.rank = rw (← c.self.view_is) at c.loop-k.invariant.0 in
    subst (λ (b : Blocks). IsFirstToReach b.numbers c.args.rank (a + place)) c.self.view_is
    (subst (λ l. IsFirstToReach (map n l) c.args.rank (a + place)) c.deref.ensures.value
    (first-in-part n c.deref.result.now a (a + s.block - a) place c.args.rank c.loop-k.rest
    (subst (λ l. c.loop-k.rest + sum_below (map n l) a ≡ c.args.rank) (sym c.deref.ensures.value) left)
    c.in_ok-place.ensures.index))
