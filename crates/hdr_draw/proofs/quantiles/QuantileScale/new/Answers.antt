use Rattle.std.proofs.Common.{◌≡◌, ◌+◌, max, arith}
use Rattle.hdr_draw.proofs.Doubled.{scale}
use Rattle.hdr_draw.proofs.quantiles.QuantileScale.new.Goals as goal

pub returns : goal.returns
returns c =
    let m = c.max-end.ensures in
    let s : c.new.result.span ≡ max c.logarithm-2.result (c.logarithm.result + 65536) = omega (arith, c.new.ensures.span, m) in
    scale c.new.result c.args.samples c.logarithm.result c.logarithm-2.result c.logarithm.ensures.is c.logarithm-2.ensures.is c.new.ensures.from s
