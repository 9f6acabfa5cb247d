use Rattle.std.proofs.Common.{ap, ◌∙◌, arith}
use Rattle.hdr_model.specs.Plain.{resolution}
use Rattle.hdr_model.specs.Quantiles.{value_at_bin}
use Rattle.hdr_model.proofs.QuantilesFirst.{found-by-blocks}
use Rattle.hdr_core.proofs.histogram.Histogram.value_at_rank.Goals as goal

pub returns : goal.returns
returns g c =
    c.value_at_bin.ensures
    ∙ ap (value_at_bin (resolution c.args.self.now) c.args.num) (found-by-blocks c.args.self.now.counts c.args.rank c.args.place (omega (arith, c.requires.nonzero)) c.requires.first)
