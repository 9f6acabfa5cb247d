use Rattle.std.proofs.Common.{rules}
use Rattle.hdr_logs.specs.Sums.{index_of}
use Rattle.hdr_logs.proofs.sums.LogSums.new.Goals as goal

pub returns-clause-indices : goal.returns-clause-indices
unfolding index_of
returns-clause-indices c = (λ tag. search rules, search rules)
