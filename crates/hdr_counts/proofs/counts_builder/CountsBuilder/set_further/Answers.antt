use Rattle.std.proofs.Common.{◌≡◌, ◌+◌, ◌-◌, ◌*◌, ◌/◌, ◌<◌, ◌≤◌, length, get_or, set, map, refl, sym, ap, ◌∙◌, subst, arith}
use Rattle.std.specs.Prelude.{vec_capacity}
use Rattle.std.proofs.lemmas.List.{map-set, length-map, set-get_or}
use Rattle.hdr_counts.specs.Blocks.{Blocks, AreOpen, IsAt, with_zeros}
use Rattle.hdr_counts.proofs.BlocksOpen.{set-twice, open-zero_fill_to, at-zero_fill_to, open-read, open-set, at-block, at-before, more-zeros, get-with-zeros, set-with-zeros}
use Rattle.hdr_counts.proofs.BlocksSums.{block_of}
use Rattle.hdr_counts.proofs.counts_builder.CountsBuilder.set_further.Given as given
use Rattle.hdr_counts.proofs.counts_builder.CountsBuilder.set_further.Goals as goal
use Rattle.hdr_counts.proofs.counts_builder.CountsBuilder.set_further.Goals.{After-zero_fill_to, After-keep_sum, After-exchanged-sum}

-- the counters, zero-filled up to the index
covered : (g : given.Over) (c : After-zero_fill_to g) → AreOpen g.T.Counter.greatest c.self.inside.section c.self.inside.len (vec_capacity c.zero_fill_to.new.counters) (map g.T.Counter.number c.zero_fill_to.new.counters.items) (set c.self.inside.sums.items c.self.inside.current c.self.inside.sum) c.self.inside.shift
covered g c =
    let n = g.T.Counter.number in
    let s = c.self.inside in
    let xs = c.zero_fill_to.new.counters.items in
    let (more, zeros) = c.zero_fill_to.ensures.numbers in
    open-zero_fill_to g.T.Counter.greatest s.section s.len _ _ more (map n s.counters.items) (map n xs) (set s.sums.items s.current s.sum) s.shift c.self.invariant.0 zeros (omega (arith, length-map xs n, c.zero_fill_to.ensures.within)) c.zero_fill_to.ensures.capacity

at-hand : (g : given.Over) (c : After-zero_fill_to g) → IsAt c.self.inside.section c.self.inside.current c.self.inside.next c.self.inside.end c.self.inside.first (map g.T.Counter.number c.zero_fill_to.new.counters.items)
at-hand g c =
    let n = g.T.Counter.number in
    let s = c.self.inside in
    let (more, zeros) = c.zero_fill_to.ensures.numbers in
    at-zero_fill_to s.section s.current s.next s.end s.first more (map n s.counters.items) (map n c.zero_fill_to.new.counters.items) c.self.invariant.1 zeros

-- up to the end of its block
block-end : (g : given.Over) (c : After-zero_fill_to g) → (c.quotient-k.result + 1) * c.self.inside.section ≤ length (map g.T.Counter.number c.zero_fill_to.new.counters.items)
block-end g c = omega (arith, length-map c.zero_fill_to.new.counters.items g.T.Counter.number, c.zero_fill_to.ensures.covered)

here : (g : given.Over) (c : After-zero_fill_to g) → c.args.i < length (map g.T.Counter.number c.zero_fill_to.new.counters.items)
here g c =
    let s = c.self.inside in
    let end : (c.quotient-k.result + 1) * s.section ≡ (c.args.i / s.section + 1) * s.section = ap (λ q. (q + 1) * s.section) c.quotient-k.ensures in
    omega (arith, block-end g c, end, block_of s.section c.args.i c.self.invariant.0.some)

-- all numbers with the index written
written : (g : given.Over) (c : After-zero_fill_to g) → ◌≡◌ {A = Blocks} (record { block = c.self.inside.block; numbers = with_zeros (map g.T.Counter.number (set c.zero_fill_to.new.counters.items c.args.i c.args.value)) c.self.inside.len })
    (record { block = c.args.self.now.block; numbers = set c.args.self.now.numbers c.args.i (g.T.Counter.number c.args.value) })
written g c =
    let n = g.T.Counter.number in
    let s = c.self.inside in
    let i = c.args.i in
    let xs = c.zero_fill_to.new.counters.items in
    let (more, zeros) = c.zero_fill_to.ensures.numbers in
    rw (← c.self.view_is) (ap (λ l. record { block = s.block; numbers = l }) (ap (λ l. with_zeros l s.len) (map-set n xs i c.args.value) ∙ set-with-zeros (map n xs) s.len i (n c.args.value) (here g c)
    ∙ ap (λ l. set l i (n c.args.value)) (more-zeros (map n s.counters.items) (map n xs) s.len more zeros (covered g c).within)))

-- the counters, with the sum of the current block stored
kept : (g : given.Over) (c : After-keep_sum g) → AreOpen g.T.Counter.greatest c.self.inside.section c.self.inside.len (vec_capacity c.zero_fill_to.new.counters) (map g.T.Counter.number c.zero_fill_to.new.counters.items) (set c.self.inside.sums.items c.self.inside.current c.self.inside.sum) c.self.inside.shift
    → AreOpen g.T.Counter.greatest c.self.inside.section c.self.inside.len (vec_capacity c.zero_fill_to.new.counters) (map g.T.Counter.number c.zero_fill_to.new.counters.items) c.keep_sum.new.sums.items c.self.inside.shift
kept g c before =
    let s = c.self.inside in
    subst (λ l. AreOpen g.T.Counter.greatest s.section s.len (vec_capacity c.zero_fill_to.new.counters) (map g.T.Counter.number c.zero_fill_to.new.counters.items) l s.shift) (sym c.keep_sum.ensures) before

pub exchanged-sum-requires-clause-within : goal.exchanged-sum-requires-clause-within
exchanged-sum-requires-clause-within g c =
    let s = c.self.inside in
    let at = goal.at.exchanged-sum-requires-clause-within g c in
    let after = at.After-zero_fill_to in
    (open-read g.T.Counter.number c.zero_fill_to.new.counters.items g.T.Counter.greatest s.section s.len _ c.args.i c.quotient-k.result c.as_u64-old.result c.index-2.result.now c.index.result.now c.keep_sum.new.sums.items s.shift (kept g at.After-keep_sum (covered g after)) (here g after) c.index.ensures c.as_u64-old.ensures.value c.quotient-k.ensures c.index-2.ensures).within

pub exchanged-sum-requires-clause-fits : goal.exchanged-sum-requires-clause-fits
exchanged-sum-requires-clause-fits g c =
    let s = c.self.inside in
    let at = goal.at.exchanged-sum-requires-clause-fits g c in
    let after = at.After-zero_fill_to in
    let pair = open-read g.T.Counter.number c.zero_fill_to.new.counters.items g.T.Counter.greatest s.section s.len _ c.args.i c.quotient-k.result c.as_u64-old.result c.index-2.result.now c.index.result.now c.keep_sum.new.sums.items s.shift (kept g at.After-keep_sum (covered g after)) (here g after) c.index.ensures c.as_u64-old.ensures.value c.quotient-k.ensures c.index-2.ensures in
    omega (arith, pair.small, c.as_u64-new.type_inv)

-- what was written, with the sum of its block
opened : (g : given.Over) (c : After-exchanged-sum g) → AreOpen g.T.Counter.greatest c.self.inside.section c.self.inside.len (vec_capacity c.zero_fill_to.new.counters) (map g.T.Counter.number c.zero_fill_to.new.counters.items) c.keep_sum.new.sums.items c.self.inside.shift
    → c.args.i < length (map g.T.Counter.number c.zero_fill_to.new.counters.items)
    → AreOpen g.T.Counter.greatest c.self.inside.section c.self.inside.len (vec_capacity c.zero_fill_to.new.counters) (set (map g.T.Counter.number c.zero_fill_to.new.counters.items) c.args.i (g.T.Counter.number c.args.value)) (set c.keep_sum.new.sums.items c.quotient-k.result c.exchanged-sum.result) c.self.inside.shift
opened g c cov at =
    let n = g.T.Counter.number in
    let s = c.self.inside in
    let i = c.args.i in
    let xs = c.zero_fill_to.new.counters.items in
    let ss = c.keep_sum.new.sums.items in
    let put = open-set g.T.Counter.greatest s.section s.len _ (map n xs) ss s.shift i (n c.args.value) cov at c.as_u64-new.ensures.bound (omega (arith, g.met.T.Counter.fits)) in
    let pair = open-read n xs g.T.Counter.greatest s.section s.len _ i c.quotient-k.result c.as_u64-old.result c.index-2.result.now c.index.result.now ss s.shift cov at c.index.ensures c.as_u64-old.ensures.value c.quotient-k.ensures c.index-2.ensures in
    let next = pair.next (n c.args.value) c.exchanged-sum.result (c.exchanged-sum.ensures ∙ ap (λ v. c.index-2.result.now - c.as_u64-old.result + v) c.as_u64-new.ensures.value) in
    let is : get_or ss (i / s.section) 0 - get_or (map n xs) i 0 + n c.args.value ≡ c.exchanged-sum.result = ap (λ x. get_or ss (i / s.section) 0 - x + n c.args.value) (sym (get-with-zeros (map n xs) s.len i at)) ∙ next in
    rw (← is, c.quotient-k.ensures) put

pub invariant_of-self-2 : goal.invariant_of-self-2
invariant_of-self-2 g c =
    let n = g.T.Counter.number in
    let s = c.self.inside in
    let xs = c.zero_fill_to.new.counters.items in
    let at = goal.at.invariant_of-self-2 g c in
    rw (map-set n xs c.args.i c.args.value, set-twice c.keep_sum.new.sums.items c.quotient-k.result c.exchanged-sum.result c.exchanged-sum.result) (
      opened g at.After-exchanged-sum (kept g at.After-keep_sum (covered g at.After-zero_fill_to)) (here g at.After-zero_fill_to),
      at-block s.section s.current s.next s.end s.first c.args.i (n c.args.value) c.quotient-k.result _ c.lower-self-inside.result c.end_after-self-inside.result (map n xs) c.self.invariant.0.some (at-hand g at.After-zero_fill_to) c.if-i-self.false c.quotient-k.ensures refl (block-end g at.After-zero_fill_to) (here g at.After-zero_fill_to)
          c.lower-self-inside.ensures.nonzero c.lower-self-inside.ensures.within c.lower-self-inside.ensures.own c.end_after-self-inside.ensures.within c.end_after-self-inside.ensures.nonzero,
      c.self.invariant.2,
    )

pub invariant_of-self : goal.invariant_of-self
invariant_of-self g c =
    let n = g.T.Counter.number in
    let s = c.self.inside in
    let xs = c.zero_fill_to.new.counters.items in
    let at = goal.at.invariant_of-self g c in
    rw (map-set n xs c.args.i c.args.value, c.sum_at-self-inside.ensures, c.deref.ensures.value, set-get_or (set c.keep_sum.new.sums.items c.quotient-k.result c.exchanged-sum.result) s.current 0) (
      opened g at.After-exchanged-sum (kept g at.After-keep_sum (covered g at.After-zero_fill_to)) (here g at.After-zero_fill_to),
      at-before s.section s.current s.next s.end s.first c.args.i (n c.args.value) c.lower-self-inside.result (map n xs) (at-hand g at.After-zero_fill_to) c.if-i-self.true c.lower-self-inside.ensures.nonzero c.lower-self-inside.ensures.within c.lower-self-inside.ensures.own,
      c.self.invariant.2,
    )

pub returns-then-i-self : goal.returns-then-i-self
returns-then-i-self g c = written g (goal.at.returns-then-i-self g c).After-zero_fill_to

pub returns : goal.returns
returns g c = written g (goal.at.returns g c).After-zero_fill_to
