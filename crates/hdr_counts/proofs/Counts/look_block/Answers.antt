use Rattle.std.proofs.Common.{◌≡◌, ◌+◌, ◌-◌, ◌*◌, ◌/◌, ◌≤◌, length, map, sum, take, drop, ap, ◌∙◌, arith}
use Rattle.hdr_counts.specs.Blocks.{sum_below}
use Rattle.hdr_counts.proofs.BlocksSums.{part_whole}
use Rattle.hdr_counts.proofs.BlocksBounds.{le_as}
use Rattle.hdr_counts.proofs.BlocksSections.{AreParted-of}
use Rattle.hdr_counts.proofs.BlocksGroups.{AreOfBlock, block-sums}
use Rattle.hdr_counts.proofs.Counts.look_block.Given as given
use Rattle.hdr_counts.proofs.Counts.look_block.Goals as goal
use Rattle.hdr_counts.proofs.Counts.look_block.Goals.{Else-self, After-deref-2}

-- the sums of the sections of block k
block : (g : given.Over) (c : Else-self g) → AreOfBlock (c.self.inside.block / c.self.inside.section) c.self.inside.block c.args.k (map g.T.Counter.number c.self.inside.counters.items) c.self.inside.sums.items
block g c =
    let s = c.self.inside in
    let ns = map g.T.Counter.number s.counters.items in
    let p = AreParted-of s.block s.section (length ns) c.self.invariant.sections.some c.self.invariant.sections.whole c.self.invariant.sections.section_is in
    let room : (c.args.k + 1) * s.block ≤ length ns = rw (← c.self.view_is) at c.requires.within in
    block-sums s.section (s.block / s.section) s.block c.args.k ns s.sums.items c.self.invariant.sums_are (p.in_block (omega (arith, c.if-self.false))).1 room

-- those sums, as they are read
read : (g : given.Over) (c : After-deref-2 g) → sum (take (c.args.k * (c.self.inside.block / c.self.inside.section) + c.self.inside.block / c.self.inside.section - c.args.k * (c.self.inside.block / c.self.inside.section)) (drop (c.args.k * (c.self.inside.block / c.self.inside.section)) c.deref-2.result.now))
    ≡ sum (take (c.self.inside.block / c.self.inside.section) (drop (c.args.k * (c.self.inside.block / c.self.inside.section)) c.self.inside.sums.items))
read g c =
    let n = c.self.inside.block / c.self.inside.section in
    let k = c.args.k in
    let w : k * n + n - k * n ≡ n = omega arith in
    ap (λ v. sum (take v (drop (k * n) c.deref-2.result.now))) w ∙ ap (λ q. sum (take n (drop (k * n) q))) c.deref-2.ensures.value

pub returns-then-self-clause-value : goal.returns-then-self-clause-value
returns-then-self-clause-value g c =
    let n = g.T.Counter.number in
    let s = c.self.inside in
    let a = c.args.k * s.block in
    let end : a + (a + s.block - a) ≡ (c.args.k + 1) * s.block = omega arith in
    rw (← c.self.view_is) (omega (arith, part_whole n s.counters.items a (a + s.block - a), c.sum_of.ensures, ap (λ l. sum (map n (take (a + s.block - a) (drop a l)))) c.deref.ensures.value, ap (sum_below (map n s.counters.items)) end))

pub slice_bounds-sum_of_sums-end : goal.slice_bounds-sum_of_sums-end
slice_bounds-sum_of_sums-end g c = le_as _ _ _ (block g (goal.at.slice_bounds-sum_of_sums-end g c).Else-self).within (ap length c.deref-2.ensures.value)

pub sum_of_sums-requires : goal.sum_of_sums-requires
sum_of_sums-requires g c = rw (read g (goal.at.sum_of_sums-requires g c).After-deref-2) (block g (goal.at.sum_of_sums-requires g c).Else-self).fits

pub returns-clause-value : goal.returns-clause-value
returns-clause-value g c =
    rw (← c.self.view_is) (omega (arith, c.sum_of_sums.ensures, read g (goal.at.returns-clause-value g c).After-deref-2, (block g (goal.at.returns-clause-value g c).Else-self).is))
