use Rattle.std.proofs.Common.{arith}
use Rattle.hdr_counts.proofs.BlocksNonzero.{none-above}
use Rattle.hdr_counts.proofs.ends.first_of.Goals as goal

pub returns-then-most-eq0-clause-index : goal.returns-then-most-eq0-clause-index
returns-then-most-eq0-clause-index g c = none-above g.T.Counter.number c.args.counters.now (omega (arith, c.requires))
