use Rattle.std.proofs.Common.{arith}
use Rattle.hdr_core.specs.Shown.{plain_of}
use Rattle.hdr_model.proofs.PlainKept.{bins-pos}
use Rattle.hdr_core.proofs.histogram.Histogram.take_out.Goals as goal

pub capped_sum-self-inside-requires : goal.capped_sum-self-inside-requires
capped_sum-self-inside-requires g c =
    let h = plain_of c.self.inside in
    omega (arith, bins-pos g.T.Counter.greatest h c.self.invariant.plain, c.take_each.ensures.bins)
