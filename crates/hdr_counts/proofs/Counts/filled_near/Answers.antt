use Rattle.hdr_counts.proofs.BlocksNonzero.{part-none, part-some, zeros-join}
use Rattle.hdr_counts.proofs.Counts.filled_near.Goals as goal

pub returns-in-Some-clause-empty : goal.returns-in-Some-clause-empty
returns-in-Some-clause-empty g c =
    rw (← c.self.view_is) (part-some g.T.Counter.number c.self.inside.counters.items c.deref.result.now c.args.from c.min-near.result c.in-Some.i c.deref.ensures.value c.in-Some.ensures.within c.in-Some.ensures.index).1

pub returns-in-Some-clause-filled : goal.returns-in-Some-clause-filled
returns-in-Some-clause-filled g c =
    rw (← c.self.view_is) (λ _. (part-some g.T.Counter.number c.self.inside.counters.items c.deref.result.now c.args.from c.min-near.result c.in-Some.i c.deref.ensures.value c.in-Some.ensures.within c.in-Some.ensures.index).0)

pub returns-in-None-clause-empty : goal.returns-in-None-clause-empty
returns-in-None-clause-empty g c =
    let near = part-none g.T.Counter.number c.self.inside.counters.items c.deref.result.now c.args.from c.min-near.result c.deref.ensures.value c.in-None.ensures.index in
    zeros-join c.args.self.now.numbers c.args.from c.min-near.result c.filled_by_section.result (rw (← c.self.view_is) near) c.filled_by_section.ensures.empty
