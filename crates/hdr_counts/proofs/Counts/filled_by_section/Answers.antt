use Rattle.std.proofs.Common.{◌+◌, ◌*◌, map, arith}
use Rattle.std.proofs.lemmas.List.{get_or_read, length-map}
use Rattle.hdr_counts.proofs.BlocksNonzero.{BlockRest, BlockRest-of, zeros-join}
use Rattle.hdr_counts.proofs.Counts.filled_by_section.Given as given
use Rattle.hdr_counts.proofs.Counts.filled_by_section.Goals as goal
use Rattle.hdr_counts.proofs.Counts.filled_by_section.Goals.{After-quotient-k}

-- what is left of the index's section
rest : (g : given.Over) (c : After-quotient-k g) → BlockRest g.T.Counter.number c.self.inside.counters.items c.self.inside.sums.items c.loop-place.place c.quotient-k.result ((c.quotient-k.result + 1) * c.self.inside.section)
rest g c =
    let s = c.self.inside in
    BlockRest-of g.T.Counter.number s.counters.items s.sums.items s.section c.loop-place.place c.quotient-k.result ((c.quotient-k.result + 1) * s.section) c.self.invariant.sums_are (omega (arith, c.loop-place-test.true, c.len.ensures, s.counters.ok.0)) c.quotient-k.ensures (omega arith)

pub first_of-requires : goal.first_of-requires
first_of-requires g c =
    let own = rest g (goal.at.first_of-requires g c).After-quotient-k in
    omega (arith, own.least c.deref.result.now c.deref.ensures.value, get_or_read c.self.inside.sums.items c.quotient-k.result c.index.result.now own.number c.index.ensures 0)

pub returns-in-Some-clause-empty : goal.returns-in-Some-clause-empty
returns-in-Some-clause-empty g c =
    let own = rest g (goal.at.returns-in-Some-clause-empty g c).After-quotient-k in
    let found = own.some c.deref.result.now c.in-Some.i c.deref.ensures.value c.in-Some.ensures.within c.in-Some.ensures.index in
    rw (← c.self.view_is) (zeros-join (map g.T.Counter.number c.self.inside.counters.items) c.args.from c.loop-place.place (c.loop-place.place + c.in-Some.i) c.loop-place.invariant.2 found.2)

pub returns-in-Some-clause-filled : goal.returns-in-Some-clause-filled
returns-in-Some-clause-filled g c =
    let own = rest g (goal.at.returns-in-Some-clause-filled g c).After-quotient-k in
    rw (← c.self.view_is) (λ _. (own.some c.deref.result.now c.in-Some.i c.deref.ensures.value c.in-Some.ensures.within c.in-Some.ensures.index).1)

pub loop-place-preserved : goal.loop-place-preserved
loop-place-preserved g c =
    let own = rest g (goal.at.loop-place-preserved g c).After-quotient-k in
    let ns = map g.T.Counter.number c.self.inside.counters.items in
    let end = (c.quotient-k.result + 1) * c.self.inside.section in
    (omega (arith, own.inside, c.loop-place.invariant.0), omega (arith, own.within, length-map c.self.inside.counters.items g.T.Counter.number), zeros-join ns c.args.from c.loop-place.place end c.loop-place.invariant.2 (own.none c.deref.result.now c.deref.ensures.value c.in-None.ensures.index))
