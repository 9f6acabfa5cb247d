use Rattle.std.proofs.Common.{sym, ◌∙◌}
use Rattle.hdrhistogram.proofs.FinerCounted.{none_if_finer, one_unless_finer}
use Rattle.hdrhistogram.proofs.serialization.interval_log.merge.one_if_coarser.Goals as goal

pub returns-then-refines-clause-value : goal.returns-then-refines-clause-value
returns-then-refines-clause-value g c = sym (none_if_finer _ c.args.source.now (c.refines.ensures.0 c.if-refines.true))

pub returns-else-refines-clause-value : goal.returns-else-refines-clause-value
returns-else-refines-clause-value g c = sym (one_unless_finer _ c.args.source.now (λ f. absurd (let h = sym c.if-refines.false ∙ c.refines.ensures.1 f in cc)))
