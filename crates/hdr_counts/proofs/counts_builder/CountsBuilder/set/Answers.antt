use Rattle.std.proofs.Common.{◌+◌, ◌<◌, length, map, set, ap, ◌∙◌, arith}
use Rattle.std.proofs.lemmas.List.{map-set}
use Rattle.hdr_counts.specs.Blocks.{with_zeros}
use Rattle.hdr_counts.proofs.BlocksOpen.{open-next, at-next, sum-small, set-with-zeros, set-twice, get-set-own}
use Rattle.hdr_counts.proofs.counts_builder.CountsBuilder.set.Goals as goal

pub overflow_add-self : goal.overflow_add-self
overflow_add-self g c =
    let s = c.self.inside in
    let small = sum-small g.T.Counter.greatest s.section s.len _ s.current s.next s.end s.first s.sum (map g.T.Counter.number s.counters.items) (set s.sums.items s.current s.sum) s.shift c.args.i c.self.invariant.0 c.self.invariant.1 c.if-i-self.true c.if-i-self-2.true (get-set-own s.sums.items s.current s.sum) in
    omega (arith, small, c.from.ensures, c.as_u64.type_inv)

pub invariant_of-self : goal.invariant_of-self
invariant_of-self g c =
    let n = g.T.Counter.number in
    let s = c.self.inside in
    let xs = s.counters.items in
    rw (map-set n xs c.args.i c.args.value, c.from.ensures, c.as_u64.ensures.value, ← set-twice s.sums.items s.current s.sum (s.sum + n c.args.value)) (
      open-next g.T.Counter.greatest s.section s.len _ s.current s.next s.end s.first s.sum (map n xs) (set s.sums.items s.current s.sum) s.shift c.args.i (n c.args.value) c.self.invariant.0 c.self.invariant.1 c.if-i-self.true c.if-i-self-2.true c.as_u64.ensures.bound (omega (arith, g.met.T.Counter.fits)) (get-set-own s.sums.items s.current s.sum),
      at-next s.section s.current s.next s.end s.first c.args.i (n c.args.value) (map n xs) c.self.invariant.1 c.if-i-self.true c.if-i-self-2.true,
      c.self.invariant.2,
    )

pub returns-then-i-self-2 : goal.returns-then-i-self-2
returns-then-i-self-2 g c =
    let n = g.T.Counter.number in
    let s = c.self.inside in
    let xs = s.counters.items in
    let at : c.args.i < length (map n xs) = omega (arith, c.self.invariant.1.at_hand, c.if-i-self-2.true) in
    rw (← c.self.view_is) (ap (λ l. record { block = s.block; numbers = l }) (ap (λ l. with_zeros l s.len) (map-set n xs c.args.i c.args.value) ∙ set-with-zeros (map n xs) s.len c.args.i (n c.args.value) at))
