use Rattle.std.proofs.Common.{set, arith}
use Rattle.hdr_counts.proofs.BlocksOpen.{part-small, open-found}
use Rattle.hdr_counts.proofs.counts_builder.CountsBuilder.last_nonzero.Goals as goal

pub last_of-requires : goal.last_of-requires
last_of-requires g c =
    let s = c.self.inside in
    let small = part-small g.T.Counter.number s.counters.items c.deref.result.now g.T.Counter.greatest s.section s.len _ 0 s.next (set s.sums.items s.current s.sum) s.shift c.self.invariant.0 c.deref.ensures.value in
    omega (arith, small)

pub returns-clause-index : goal.returns-clause-index
returns-clause-index g c =
    let s = c.self.inside in
    rw (← c.self.view_is) (open-found g.T.Counter.number s.counters.items c.deref.result.now s.section s.current s.next s.end s.first s.len c.last_of.result c.self.invariant.1 c.deref.ensures.value c.last_of.ensures.within c.last_of.ensures.index)
