use Rattle.std.proofs.Common.{◌≡◌, ◌+◌, ◌<◌, ◌≤◌, length, get_or, set, map, ap, sym, subst, ◌∙◌, arith}
use Rattle.std.proofs.lemmas.List.Elements.{All-set}
use Rattle.std.proofs.lemmas.List.{map-set, length-set}
use Rattle.hdr_counts.specs.Blocks.{AreSections}
use Rattle.hdr_counts.proofs.BlocksBounds.{lt_as}
use Rattle.hdr_counts.proofs.BlocksSums.{AreSums-set}
use Rattle.hdr_counts.proofs.BlocksWritten.{number-read, are-read}
use Rattle.hdr_counts.proofs.Counts.try_add.Given as given
use Rattle.hdr_counts.proofs.Counts.try_add.Goals as goal
use Rattle.hdr_counts.proofs.Counts.try_add.Goals.{After-as_u64}

-- the index is one of the counters
inside : (g : given.Over) (c : After-as_u64 g) → c.args.i < length (map g.T.Counter.number c.self.inside.counters.items)
inside g c = lt_as _ _ _ c.requires (ap (λ v. length v.numbers) c.self.view_is)

-- its number
old : (g : given.Over) (c : After-as_u64 g) → c.as_u64.result ≡ get_or (map g.T.Counter.number c.self.inside.counters.items) c.args.i 0
old g c = number-read g.T.Counter.number c.self.inside.counters.items c.args.i c.as_u64.result c.index.result.now (inside g c) c.index.ensures c.as_u64.ensures.value

pub overflow_add-index_mut : goal.overflow_add-index_mut
overflow_add-index_mut g c =
    let s = c.self.inside in
    let after = (goal.at.overflow_add-index_mut g c).After-as_u64 in
    let pair = are-read s.section c.args.i c.quotient-k.result c.as_u64.result c.index_mut.result.now (map g.T.Counter.number s.counters.items) s.sums.items c.self.invariant.sums_are (inside g after) (old g after) c.quotient-k.ensures c.index_mut.ensures.value in
    omega (arith, pair.small, c.from.ensures)

pub invariant_of-self : goal.invariant_of-self
invariant_of-self g c =
    let n = g.T.Counter.number in
    let s = c.self.inside in
    let i = c.args.i in
    let ns = map n s.counters.items in
    let after = (goal.at.invariant_of-self g c).After-as_u64 in
    let pair = are-read s.section c.args.i c.quotient-k.result c.as_u64.result c.index_mut.result.now (map g.T.Counter.number s.counters.items) s.sums.items c.self.invariant.sums_are (inside g after) (old g after) c.quotient-k.ensures c.index_mut.ensures.value in
    let new = n c.in_ok-counter.counter in
    let fit : new ≤ g.T.Counter.greatest = omega (arith, c.in_ok-counter.ensures) in
    let put = AreSums-set s.section ns s.sums.items i new c.self.invariant.sums_are (inside g after) (omega (arith, fit, g.met.T.Counter.fits)) in
    let is = pair.next new (c.index_mut.result.now + c.from.result) (omega (arith, pair.within, c.in_ok-sum.ensures, c.in_ok-counter.ensures, c.from.ensures)) in
    rw (map-set n s.counters.items i c.in_ok-counter.counter, ← is, c.quotient-k.ensures) (record { sections = subst (λ m. AreSections s.block s.section m) (sym (length-set ns i new)) c.self.invariant.sections; sums_are = put; shift_is = c.self.invariant.shift_is; fit = All-set (λ n. n ≤ g.T.Counter.greatest) ns i new fit c.self.invariant.fit })

pub returns : goal.returns
returns g c =
    let n = g.T.Counter.number in
    let s = c.self.inside in
    let ns = map n s.counters.items in
    let is : n c.in_ok-counter.counter ≡ get_or ns c.args.i 0 + c.args.number = omega (arith, old g (goal.at.returns g c).After-as_u64, c.in_ok-sum.ensures, c.in_ok-counter.ensures) in
    rw (← c.self.view_is) (omega (arith, is, c.in_ok-counter.ensures), ap (λ l. record { block = s.block; numbers = l }) (map-set n s.counters.items c.args.i c.in_ok-counter.counter ∙ ap (λ x. set ns c.args.i x) is))
