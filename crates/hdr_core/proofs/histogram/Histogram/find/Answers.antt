use Rattle.std.proofs.Common.{◌∙◌, ◌+◌, length, ap, arith}
use Rattle.hdr_counts.specs.Blocks.{looks}
use Rattle.hdr_model.specs.Plain.{Plain, block_of}
use Rattle.hdr_model.specs.Quantiles.{position_of_rank}
use Rattle.hdr_model.proofs.QuantilesFirst.{found-by-blocks}
use Rattle.hdr_core.proofs.histogram.Histogram.find.Goals as goal

pub returns-clause-index : goal.returns-clause-index
returns-clause-index g c =
    found-by-blocks c.self.inside.counts.numbers c.args.rank c.find.result (omega (arith, c.requires.nonzero)) c.find.ensures.index ∙ ap (λ (p : Plain). position_of_rank p.counts c.args.rank) c.self.view_is

pub returns-clause-looks : goal.returns-clause-looks
returns-clause-looks g c =
    c.find.ensures.ticks ∙ ap (λ b. c.args.ticks.now + looks b (length c.self.inside.counts.numbers) c.find.result) c.self.invariant.block
    ∙ ap (λ (p : Plain). c.args.ticks.now + looks (block_of p) (length p.counts) c.find.result) c.self.view_is
