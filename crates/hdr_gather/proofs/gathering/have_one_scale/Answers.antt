use Rattle.std.proofs.Common.{IsTrue}
use Rattle.hdr_gather.proofs.gathering.have_one_scale.Goals as goal

pub returns-clause-one : goal.returns-clause-one
returns-clause-one g c = λ one. (c.first_scale-decimals.result.0, c.first_scale-decimals.result.1, c.are_next_in.ensures.0 one)

pub returns-clause-several : goal.returns-clause-several
returns-clause-several g c = λ several d u all.
    let yes : IsTrue c.are_next_in.result = c.are_next_in.ensures.1 (c.first_scale-decimals.ensures d u all) in
    absurd (cc (yes, several))
