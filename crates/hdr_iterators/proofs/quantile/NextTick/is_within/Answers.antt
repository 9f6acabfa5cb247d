use Rattle.std.proofs.Common.{◌≡◌, ◌<◌, ◌≤◌, ◌∙◌, leb, arith}
use Rattle.hdr_iterators.specs.Places.{is_within}
use Rattle.hdr_iterators.proofs.TicksHalves.{within_few}
use Rattle.hdr_iterators.proofs.quantile.NextTick.is_within.Goals as goal

pub returns-clause-below : goal.returns-clause-below
returns-clause-below c = λ yes.
    let s = c.self.inside in
    let below : c.args.count < s.total = rw (← c.self.view_is) at c.requires in
    let le : c.args.count ≤ s.total = omega (arith, below) in
    let test : is_within s.tick.per_half c.args.count s.total s.tick.number ≡ leb s.reached_at c.args.count = c.self.invariant.2 c.args.count le in
    rw (← c.self.view_is) (within_few s.tick.per_half c.args.count s.total s.tick.number c.self.invariant.0 below c.self.invariant.1 (test ∙ yes))
