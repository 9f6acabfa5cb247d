use Rattle.std.proofs.Common.{◌≡◌, ◌+◌, ◌*◌, ◌<◌, ◌≤◌, length, take, map, sum, ap, ◌∙◌, arith}
use Rattle.hdr_counts.specs.Blocks.{sum_below, sum_before}
use Rattle.hdr_counts.proofs.BlocksSums.{sum_below-le-sum, sum-fits, block_of, block_in, block_past}
use Rattle.hdr_counts.proofs.BlocksGroups.{sums-below}
use Rattle.hdr_counts.proofs.Counts.sum_to.Given as given
use Rattle.hdr_counts.proofs.Counts.sum_to.Goals as goal
use Rattle.hdr_counts.proofs.Counts.sum_to.Goals.{After-deref, After-sum_in_section}

-- the index's section is one of the sections
inside : (g : given.Over) (c : After-deref g) → c.quotient-k.result < length c.self.inside.sums.items
inside g c =
    let s = c.self.inside in
    let same : length (map g.T.Counter.number s.counters.items) ≡ length c.args.self.now.numbers = ap (λ v. length v.numbers) c.self.view_is in
    rw c.quotient-k.ensures (block_in s.section c.args.i (length s.sums.items) c.self.invariant.sums_are.some (omega (arith, same, c.self.invariant.sums_are.whole, c.requires)))

-- the sums of the sections before it
before : (g : given.Over) (c : After-deref g) → sum (take c.quotient-k.result c.deref.result.now) ≡ sum_below (map g.T.Counter.number c.self.inside.counters.items) (c.quotient-k.result * c.self.inside.section)
before g c =
    let s = c.self.inside in
    ap (λ l. sum (take c.quotient-k.result l)) c.deref.ensures.value
    ∙ sums-below s.section (map g.T.Counter.number s.counters.items) s.sums.items c.quotient-k.result c.self.invariant.sums_are (omega (arith, inside g c))

pub sum_of_sums-requires : goal.sum_of_sums-requires
sum_of_sums-requires g c =
    let s = c.self.inside in
    let ns = map g.T.Counter.number s.counters.items in
    omega (arith, before g (goal.at.sum_of_sums-requires g c).After-deref, sum_below-le-sum ns (c.quotient-k.result * s.section), sum-fits ns c.self.invariant.sums_are.few c.self.invariant.sums_are.fits)

pub sum_in_section-requires : goal.sum_in_section-requires
sum_in_section-requires g c =
    let s = c.self.inside in
    let k = c.quotient-k.result in
    let b : (k * s.section ≤ c.args.i) × (c.args.i < (k + 1) * s.section) = rw c.quotient-k.ensures (block_of s.section c.args.i c.self.invariant.sums_are.some) in
    let within : (k + 1) * s.section ≤ length s.sums.items * s.section = block_past s.section k (length s.sums.items) (inside g (goal.at.sum_in_section-requires g c).After-deref) in
    rw (← c.self.view_is, ← c.self.invariant.sections.section_is) (record { from = b.0; before = b.1; within = omega (arith, within, c.self.invariant.sums_are.whole) })

total : (g : given.Over) (c : After-sum_in_section g) → c.sum_of_sums.result + c.sum_in_section.result ≡ sum_below (map g.T.Counter.number c.self.inside.counters.items) (c.args.i + 1)
total g c =
    let s = c.self.inside in
    let ns = map g.T.Counter.number s.counters.items in
    let part : sum_below ns (c.quotient-k.result * s.section) + c.sum_in_section.result ≡ sum_below ns (c.args.i + 1) = rw (← c.self.view_is, ← c.self.invariant.sections.section_is) at c.sum_in_section.ensures in
    omega (arith, part, c.sum_of_sums.ensures, before g (goal.at.returns g c).After-deref)

pub overflow_add-result : goal.overflow_add-result
overflow_add-result g c =
    let ns = map g.T.Counter.number c.self.inside.counters.items in
    omega (arith, total g c, sum_below-le-sum ns (c.args.i + 1), sum-fits ns c.self.invariant.sums_are.few c.self.invariant.sums_are.fits)

pub returns : goal.returns
returns g c = rw (← c.self.view_is) (total g c)
