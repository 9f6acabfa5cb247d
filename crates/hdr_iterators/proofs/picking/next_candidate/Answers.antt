use Rattle.std.proofs.Common.{◌+◌}
use Rattle.hdr_iterators.proofs.PicksSteps.{NoneBefore-passed}
use Rattle.hdr_iterators.proofs.picking.next_candidate.Goals as goal

pub returns-then-skips_empty-clause-declined : goal.returns-then-skips_empty-clause-declined
returns-then-skips_empty-clause-declined g c = λ picks filled ahead.
    NoneBefore-passed c.args.bins.now (c.args.index + 1) c.next_filled.result picks (filled c.if-skips_empty.true) c.next_filled.ensures.empty ahead
