use Rattle.hdrhistogram.proofs.PayloadReadCuts.{parted_are, parted_only}
use Rattle.hdrhistogram.proofs.laws.one_parting.Goals as goal

pub returns-clause-are : goal.returns-clause-are
returns-clause-are c = parted_are

pub returns-clause-only : goal.returns-clause-only
returns-clause-only c = parted_only
